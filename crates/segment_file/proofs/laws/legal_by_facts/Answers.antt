use Rattle.segment_file.proofs.WrittenLemmas.{text_legal, written_says, written_text}
use Rattle.segment_file.proofs.laws.legal_by_facts.Goals as goal

pub returns : goal.returns
returns c = record { facts = text_legal; value = written_says; text = written_text }
