use Rattle.dc_show.proofs.OneLine.{one_text, never_both, one_fault}
use Rattle.dc_show.proofs.laws.one_answer_of_line.Goals as goal

pub returns : goal.returns
returns c = record { text = one_text; never_both = never_both; fault = λ line f g p q. one_fault line f g p.why q.why }
