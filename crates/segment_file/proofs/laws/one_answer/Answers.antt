use Rattle.segment_file.proofs.AnswerLemmas.{one_segment, legal_unrefused, one_refusal}
use Rattle.segment_file.proofs.laws.one_answer.Goals as goal

pub returns : goal.returns
returns c = record { segment = one_segment; legal = legal_unrefused; refusal = one_refusal }
