use Rattle.copy_law.proofs.CopiesNear.{copies_stay}
use Rattle.copy_law.proofs.laws.copies_are_near.Goals as goal

pub returns : goal.returns
returns c = copies_stay
