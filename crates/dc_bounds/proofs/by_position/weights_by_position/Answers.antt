use Rattle.dc_bounds.proofs.ByPosition.{reference_here, weight_here}
use Rattle.dc_bounds.proofs.by_position.weights_by_position.Goals as goal

pub returns : goal.returns
returns c = record {
  reference = reference_here;
  weight = λ rows tree slaves measures there alike timed clocks same. weight_here rows tree slaves measures there timed clocks alike same;
}
