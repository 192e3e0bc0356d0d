use Rattle.std.proofs.Common.{◌≡◌, map, take, is_some}
use Rattle.cable_tree.specs.FrameOrder.{order}
use Rattle.segment_file.specs.Segment.{clock_at, tree_rows}
use Rattle.segment_cases.proofs.reports.delays.delays_of.Given as goal

abbrev pub invariant-loop-position : goal.invariant-loop-position
invariant-loop-position l = map is_some l.delays.items ≡ map (clock_at l.segment.rows) (take l.position (order (tree_rows l.segment.rows)))
