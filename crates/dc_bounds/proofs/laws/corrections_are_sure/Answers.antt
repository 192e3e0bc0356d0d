use Rattle.dc_bounds.proofs.Locking.{some_fall, fall_is, sure}
use Rattle.dc_bounds.proofs.laws.corrections_are_sure.Goals as goal

pub returns : goal.returns
returns c = record { some = some_fall; is = fall_is; sure = sure }
