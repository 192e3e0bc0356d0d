use Rattle.cable_tree.proofs.Children.{root_of}
use Rattle.cable_tree.proofs.Members.{order_first, parent_before}
use Rattle.cable_tree.proofs.laws.parents_come_first.Goals as goal

pub returns : goal.returns
returns c = record { root = root_of; first = order_first; parents = parent_before }
