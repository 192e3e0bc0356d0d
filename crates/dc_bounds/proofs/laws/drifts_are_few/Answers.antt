use Rattle.dc_bounds.proofs.Locking.{enough, silence_within, reach_few}
use Rattle.dc_bounds.proofs.laws.drifts_are_few.Goals as goal

pub returns : goal.returns
returns c = record { falls = enough; longer = silence_within; few = reach_few }
