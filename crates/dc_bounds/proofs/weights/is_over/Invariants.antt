use Rattle.std.proofs.Common.{◌≡◌, ◌<◌, ◌-◌, length}
use Rattle.cable_tree.specs.Segment.{IsSegment}
use Rattle.dc_bounds.specs.Weight.{flag, is_over, is_over_within}
use Rattle.dc_bounds.proofs.weights.is_over.Given as goal

abbrev pub invariant-loop : goal.invariant-loop
invariant-loop l = record {
  segment : IsSegment l.tree;
  here : l.here < length l.tree;
  same : is_over l.tree (flag l.measuring) l.over l.row ≡ is_over_within l.tree (flag l.measuring) l.over (length l.tree - l.counter) l.here;
}
