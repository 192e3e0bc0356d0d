use Rattle.segment_shape.proofs.FileTextLemmas.{file_text_read}
use Rattle.segment_shape.proofs.RangeLemmas.{file_ranges}
use Rattle.segment_shape.proofs.WrittenLemmas.{file_read}
use Rattle.segment_shape.proofs.laws.files_by_facts.Goals as goal

pub returns : goal.returns
returns c = record { read = file_ranges; written = file_read; text = file_text_read }
