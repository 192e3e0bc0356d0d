use Rattle.cable_tree.proofs.Children.{child_is, child_hangs}
use Rattle.cable_tree.proofs.laws.children_hang_at_their_parents.Goals as goal

pub returns : goal.returns
returns c = record { found = λ rows tree k a. child_is rows tree a.row a.port k; hangs = child_hangs }
