use Rattle.std.proofs.Common.{◌≡◌, ◌<◌, ◌≤◌, ◌*◌, ◌+◌, ◌-◌, length}
use Rattle.cable_tree.specs.Segment.{IsSegment}
use Rattle.dc_bounds.specs.Weight.{flag, hops_within}
use Rattle.dc_bounds.proofs.weights.hops.Given as goal

abbrev pub invariant-loop : goal.invariant-loop
invariant-loop l = record {
  segment : IsSegment l.tree;
  here : l.here < length l.tree;
  same : hops_within l.tree (flag l.measuring) l.over (length l.tree) l.row ≡ l.sum + hops_within l.tree (flag l.measuring) l.over (length l.tree - l.counter) l.here;
  few : l.sum ≤ 2 * l.counter;
}
