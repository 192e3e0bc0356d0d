use Rattle.dc_bounds.proofs.Staying.{copies_near}
use Rattle.dc_bounds.proofs.laws.copies_stay_near.Goals as goal

pub returns : goal.returns
returns c = copies_near
