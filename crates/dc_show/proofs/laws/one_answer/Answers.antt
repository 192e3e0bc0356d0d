use Rattle.dc_show.proofs.OneAnswer.{same_text, text_or_refusal, same_refusal}
use Rattle.dc_show.proofs.laws.one_answer.Goals as goal

pub returns : goal.returns
returns c = record { text = same_text 1; never_both = text_or_refusal 1; refusal = same_refusal 1 }
