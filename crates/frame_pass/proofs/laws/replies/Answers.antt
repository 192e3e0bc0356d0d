use Rattle.frame_pass.proofs.Reply.{same_reply, no_difference}
use Rattle.frame_pass.proofs.laws.replies.Goals as goal

pub returns-clause-same : goal.returns-clause-same
returns-clause-same c = same_reply

pub returns-clause-undisturbed : goal.returns-clause-undisturbed
returns-clause-undisturbed c = no_difference
