-- The edges of a run, by the whole copies of their clocks.
use Rattle.std.specs.Prelude.{◌≡◌, ℕ, ◌+◌, ◌*◌, ◌<◌, ◌≤◌, List, Some, slice_get}
use Rattle.copy_law.specs.WholeTimes.{whole_copy}
use Rattle.delay_law.specs.Resting.{row_there}
use Rattle.edge_report.specs.Edges.{shift_of}
use Rattle.local_clock.specs.Reading.{Happening}
use Rattle.master_script.specs.Words.{Words}
use Rattle.segment_file.specs.Segment.{SegmentValue}
use Rattle.sync_units.specs.Edges.{edge_of, edges_of}
use Rattle.sync_units.specs.declared.edge.Edge.{Edge}
use Rattle.sync_units.specs.declared.edge.Signal.{Signal}

-- what is due of a signal of the slave at a position, with edge k, where the units start then
abbrev pub due_at : SegmentValue → ℕ → Signal → ℕ → ℕ → ℕ
due_at s p signal start k = start + shift_of (row_there s p) signal + k * s.head.cycle_ns

-- Edge k of a signal is kept, and was raised at u: after the arming, by the end, and where the clock's copy had come to what was due, or was
-- at most 10 ns above.
pub record IsRaised (s : SegmentValue) (w : Words) (p : ℕ) (signal : Signal) (start k armed end u : ℕ) (events : List Happening)
    (kept : List Edge) : Type 0 where
  pub is_kept : slice_get (edges_of signal kept) k ≡ Some (edge_of signal k u)
  pub after : armed < u
  pub by : u ≤ end
  pub reached : due_at s p signal start k ≤ whole_copy s w p events u
  pub near : whole_copy s w p events u ≤ due_at s p signal start k + 10
