-- A signal with the copy bound of its clock, as the code carries it along.
use Rattle.std.specs.Prelude.{ℕ, ◌≤◌, ◌<◌}
use Rattle.segment_bounds.specs.Bounds.{copy_bound_at}
use Rattle.segment_bounds.specs.Window.{window_within}
use Rattle.segment_file.specs.Segment.{SegmentValue}
use Rattle.edge_report.specs.Spread.{signal_of}
use Rattle.edge_report.specs.declared.bounded.Bounded.{Bounded}
use Rattle.edge_report.specs.declared.slave_edge.SlaveEdge.{SlaveEdge}

abbrev pub bounded : SegmentValue → SlaveEdge → Bounded
bounded s e = record { signal = signal_of s e; bound_fs = copy_bound_at s (signal_of s e).row }

-- W of two of them
abbrev pub bounded_window : ℕ → Bounded → Bounded → ℕ
bounded_window ppm a b = window_within ppm a.signal a.bound_fs b.signal b.bound_fs

-- what holds of the signals of every segment
abbrev pub IsSmall : Bounded → Type 0
IsSmall a = (a.bound_fs ≤ 10000000000000) × (a.signal.shift_ns < 1000000000)
