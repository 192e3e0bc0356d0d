use Rattle.honest_slaves.proofs.Replies.{judged_none}
use Rattle.honest_slaves.proofs.laws.replies_are_accepted.Goals as goal

pub returns : goal.returns
returns c = judged_none
