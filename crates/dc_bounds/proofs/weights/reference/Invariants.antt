use Rattle.std.proofs.Common.{◌≡◌}
use Rattle.std.specs.List.{find}
use Rattle.std.specs.Prelude.{drop, length}
use Rattle.cable_tree.specs.FrameOrder.{order}
use Rattle.dc_bounds.specs.Weight.{flag}
use Rattle.dc_bounds.proofs.weights.reference.Given as goal

abbrev pub invariant-loop-row : goal.invariant-loop-row
invariant-loop-row l = record {
  same : find (flag l.timed) (order l.tree) ≡ find (flag l.timed) (drop l.row-index l.row-items);
  length : length l.timed ≡ length l.tree;
}
