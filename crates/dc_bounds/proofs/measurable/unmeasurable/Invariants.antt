use Rattle.std.proofs.Common.{◌≡◌, drop, length}
use Rattle.cable_tree.specs.FrameOrder.{order}
use Rattle.dc_bounds.specs.Measurable.{unmeasurable}
use Rattle.dc_bounds.specs.Weight.{flag}
use Rattle.dc_bounds.proofs.Leading.{first_bad, cannot}
use Rattle.dc_bounds.proofs.measurable.unmeasurable.Given as goal

abbrev pub invariant-loop-row : goal.invariant-loop-row
invariant-loop-row l = record {
  same : unmeasurable l.tree (flag l.measuring) (order l.tree) ≡ first_bad (flag l.measuring) (cannot l.tree (flag l.measuring)) l.is_first (drop l.row-index l.row-items);
  length : length l.measuring ≡ length l.tree;
}
