use Rattle.std.proofs.Common.{ℕ, ◌<◌}
use Rattle.cable_tree.specs.Refusals.{IsOrphan}
use Rattle.cable_tree.proofs.checks.check_parents.Given as goal

abbrev pub invariant-loop-row : goal.invariant-loop-row
invariant-loop-row l = (q : ℕ) → q < l.row → IsOrphan l.rows q → ⊥
