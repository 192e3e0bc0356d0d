use Rattle.std.proofs.Common.{ℕ, ◌<◌, length}
use Rattle.cable_tree.specs.Segment.{LeadsToRoot}
use Rattle.cable_tree.proofs.checks.check_ways.Given as goal

abbrev pub invariant-loop-row : goal.invariant-loop-row
invariant-loop-row l = (q : ℕ) → q < l.row → LeadsToRoot l.rows (length l.rows) q
