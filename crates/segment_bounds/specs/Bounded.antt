-- A signal with the copy bound of its clock, as the code carries it along.
use Rattle.std.specs.Prelude.{ℕ, ◌≤◌}
use Rattle.segment_file.specs.Segment.{SegmentValue}
use Rattle.segment_bounds.specs.Bounds.{copy_bound_at}
use Rattle.segment_bounds.specs.Window.{window_within}
use Rattle.segment_bounds.specs.declared.bounded.Bounded.{Bounded}
use Rattle.segment_bounds.specs.declared.signal.Signal.{Signal}

abbrev pub bounded : SegmentValue → Signal → Bounded
bounded s a = record { signal = a; bound_fs = copy_bound_at s a.row }

-- W of two of them
abbrev pub bounded_window : ℕ → Bounded → Bounded → ℕ
bounded_window ppm a b = window_within ppm a.signal a.bound_fs b.signal b.bound_fs

-- what holds of the signals of every segment
abbrev pub IsSmall : Bounded → Type 0
IsSmall a = a.bound_fs ≤ 10000000000000
