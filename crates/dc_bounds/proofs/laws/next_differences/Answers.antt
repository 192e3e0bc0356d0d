use Rattle.dc_bounds.proofs.Drawing.{next_drift, next_left}
use Rattle.dc_bounds.proofs.laws.next_differences.Goals as goal

pub returns : goal.returns
returns c = record { drift = next_drift; left = next_left }
