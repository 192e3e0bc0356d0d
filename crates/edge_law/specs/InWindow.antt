-- That the edges of a run are all there, and lie within the window.
use Rattle.std.specs.Prelude.{◌≡◌, ℕ, ◌+◌, ◌*◌, ◌<◌, true, List, Some, slice_get}
use Rattle.dc_bounds.specs.CopyBound.{window}
use Rattle.dc_bounds.specs.TickFacts.{IsNear}
use Rattle.delay_law.specs.Resting.{row_there}
use Rattle.edge_report.specs.Edges.{HasSignal, shift_of}
use Rattle.esc_regs.specs.Kinds.{has_clock}
use Rattle.frame_pass.specs.SlaveState.{Slave, Timing}
use Rattle.honest_slaves.specs.FileSlaves.{kind_at}
use Rattle.segment_bounds.specs.Bounds.{copy_bound_at}
use Rattle.segment_bounds.specs.Window.{apart}
use Rattle.segment_file.specs.Segment.{SegmentValue, row_at}
use Rattle.sync_units.specs.Edges.{edges_of}
use Rattle.sync_units.specs.declared.edge.Edge.{Edge}
use Rattle.sync_units.specs.declared.edge.Signal.{Signal}

-- of these slaves, the one at a position has a clock with a signal of the file, and has kept edge k of it
pub record HasEdge (s : SegmentValue) (ss : List Slave) (p : ℕ) (signal : Signal) (k : ℕ) (e : Edge) : Type 0 where
  pub slave : Slave
  pub there : slice_get ss p ≡ Some slave
  pub clock : has_clock (kind_at s p) ≡ true
  pub signals : HasSignal (row_there s p) signal
  pub timing : Timing
  pub has : slave.timing ≡ Some timing
  pub kept : slice_get (edges_of signal timing.edges.edges) k ≡ Some e

-- Each signal of the file has an edge of each index below `cycles`; and two edges of one index are as far apart as their shifts say, but for at
-- most the window W of their signals.
pub record AreEdgesWithin (s : SegmentValue) (ss : List Slave) : Type 0 where
  pub every : (p k : ℕ) (v : Slave) (signal : Signal) → slice_get ss p ≡ Some v → has_clock (kind_at s p) ≡ true
      → HasSignal (row_there s p) signal → k < s.head.cycles → (e : Edge) × HasEdge s ss p signal k e
  pub window : (p q k : ℕ) (signal other : Signal) (e f : Edge) → k < s.head.cycles → HasEdge s ss p signal k e → HasEdge s ss q other k f
      → IsNear (f.time_fs + 1000000 * shift_of (row_there s p) signal) (e.time_fs + 1000000 * shift_of (row_there s q) other)
      (window s.head.ppm (apart (shift_of (row_there s p) signal) (shift_of (row_there s q) other)) (copy_bound_at s (row_at s p))
      (copy_bound_at s (row_at s q)))
