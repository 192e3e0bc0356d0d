-- The receive times that a master is told by Times.
use Rattle.std.specs.Prelude.{◌≡◌, ℕ, ◌+◌, ◌*◌, ◌%◌, ◌^◌, ◌<◌, true, false, List, Option, Some, None, slice_index, slice_index_or, length}
use Rattle.cable_tree.specs.declared.port.Port.{Port}
use Rattle.cable_tree.specs.PathSums.{arrive, port_time}
use Rattle.dc_bounds.specs.LockNumbers.{period_fs}
use Rattle.dc_delay.specs.declared.latch.Latch.{Latch}
use Rattle.dc_topology.specs.Listed.{port_number}
use Rattle.master_script.specs.Words.{Words}
use Rattle.segment_file.specs.Segment.{SegmentValue, measures_at, row_at, tree_rows}
use Rattle.delay_law.specs.Resting.{row_there, shown_at}

-- when the Latch that came back was sent, in fs: at its number times the frame period
abbrev pub latch_sent : SegmentValue → Words → ℕ
latch_sent s w = w.latched * period_fs s.head.frame_ns

-- they are what the clock at a position, correcting nothing, showed at the visits of a frame that was sent then
pub record TellsTimes (s : SegmentValue) (p sent : ℕ) (latch : Latch) : Type 0 where
  pub port0 : slice_index latch.ports 0 ≡ shown_at (row_there s p) (sent + arrive (tree_rows s.rows) (row_at s p)) % 2 ^ 32
  pub ports : (q : Port) (at : ℕ) → port_time (tree_rows s.rows) (row_at s p) q ≡ Some at
      → slice_index latch.ports (port_number q) ≡ shown_at (row_there s p) (sent + at) % 2 ^ 32
  pub unit : latch.unit ≡ shown_at (row_there s p) (sent + arrive (tree_rows s.rows) (row_at s p))

-- of a measuring slave so, and of every other nothing
pub record AreTold (s : SegmentValue) (sent : ℕ) (latches : List (Option Latch)) : Type 0 where
  pub measuring : (p : ℕ) → p < length s.rows → measures_at s.rows (row_at s p) ≡ true
      → (latch : Latch) × (slice_index_or latches p None ≡ Some latch) × TellsTimes s p sent latch
  pub others : (p : ℕ) → p < length s.rows → measures_at s.rows (row_at s p) ≡ false → slice_index_or latches p None ≡ None
