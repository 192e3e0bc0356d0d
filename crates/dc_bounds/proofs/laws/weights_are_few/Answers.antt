use Rattle.dc_bounds.proofs.WeightSize.{way_few, weight_few}
use Rattle.dc_bounds.proofs.laws.weights_are_few.Goals as goal

pub returns : goal.returns
returns c = record { way = way_few; weight = weight_few }
