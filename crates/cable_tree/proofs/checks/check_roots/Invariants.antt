use Rattle.cable_tree.proofs.Checked.{AreRoots}
use Rattle.cable_tree.proofs.checks.check_roots.Given as goal

abbrev pub invariant-loop-row : goal.invariant-loop-row
invariant-loop-row l = AreRoots l.rows l.row l.root
