use Rattle.dc_bounds.proofs.Exported.{reference_first}
use Rattle.dc_delay.proofs.NearDelays.{reference_alone, near, bounded}
use Rattle.dc_delay.proofs.laws.measured_delays_are_near.Goals as goal

pub returns : goal.returns
returns c = record { reference = reference_alone; later = reference_first; near = near; bound = bounded }
