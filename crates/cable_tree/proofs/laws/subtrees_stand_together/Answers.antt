use Rattle.cable_tree.proofs.Levels.{subtree_is}
use Rattle.cable_tree.proofs.Pieces.{stands_together}
use Rattle.cable_tree.proofs.laws.subtrees_stand_together.Goals as goal

pub returns : goal.returns
returns c = record { piece = stands_together; parts = subtree_is }
