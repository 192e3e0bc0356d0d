use Rattle.copy_law.proofs.Locked.{locked}
use Rattle.copy_law.proofs.laws.differences_are_locked.Goals as goal

pub returns : goal.returns
returns c = locked
