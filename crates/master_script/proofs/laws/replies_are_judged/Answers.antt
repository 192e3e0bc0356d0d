use Rattle.master_script.proofs.Faults.{judged_by_fault}
use Rattle.master_script.proofs.Replies.{reply_told, counter_told, accepted_told}
use Rattle.master_script.proofs.laws.replies_are_judged.Goals as goal

pub returns : goal.returns
returns c = record { reply = reply_told; counter = counter_told; accepted = accepted_told; fault = judged_by_fault }
