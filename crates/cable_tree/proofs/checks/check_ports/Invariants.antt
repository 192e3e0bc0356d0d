use Rattle.cable_tree.proofs.Checked.{AreHung}
use Rattle.cable_tree.proofs.checks.check_ports.Given as goal

abbrev pub invariant-loop-row : goal.invariant-loop-row
invariant-loop-row l = AreHung l.rows l.row l.kids.items
