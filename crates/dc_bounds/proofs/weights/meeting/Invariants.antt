use Rattle.std.proofs.Common.{◌≡◌, ◌<◌, ◌-◌, length}
use Rattle.cable_tree.specs.Segment.{IsSegment}
use Rattle.dc_bounds.specs.Weight.{flag, meeting_within}
use Rattle.dc_bounds.proofs.weights.meeting.Given as goal

abbrev pub invariant-loop : goal.invariant-loop
invariant-loop l = record {
  segment : IsSegment l.tree;
  here : l.here < length l.tree;
  same : meeting_within l.tree (flag l.measuring) l.reference (length l.tree) l.row ≡ meeting_within l.tree (flag l.measuring) l.reference (length l.tree - l.counter) l.here;
}
