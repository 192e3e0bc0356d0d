use Rattle.cable_tree.proofs.Rising.{order_pair}
use Rattle.cable_tree.proofs.laws.arrivals_rise.Goals as goal

pub returns : goal.returns
returns c = order_pair
