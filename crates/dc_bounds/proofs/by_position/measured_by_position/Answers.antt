use Rattle.dc_bounds.proofs.ByPosition.{measuring_here, measured_here, unmeasurable_here}
use Rattle.dc_bounds.proofs.by_position.measured_by_position.Goals as goal

pub returns : goal.returns
returns c = record { parent = measuring_here; measurable = measured_here; unmeasurable = unmeasurable_here }
