-- The clocks of a file as long as they correct nothing.
use Rattle.std.specs.Prelude.{◌≡◌, ℕ, ◌+◌, ◌*◌, ◌%◌, ◌^◌, List, Some, IfSome, pos, slice_get}
use Rattle.osc_clock.specs.Ticks.{ticks}
use Rattle.frame_pass.specs.SlaveState.{Slave, Timing, width}
use Rattle.segment_file.specs.Segment.{RowValue, SegmentValue, oscillator, row_at, row_of}

-- the local time of the clock of a row at t, without wrap: its start, and 10 ns for each tick
abbrev pub time_at : RowValue → ℕ → ℕ
time_at row t = row.start + 10 * ticks (oscillator row) t

-- what the clock shows then: that time as a word of the clock's width
abbrev pub shown_at : RowValue → ℕ → ℕ
shown_at row t = time_at row t % 2 ^ width row.kind

-- a clock is that of the row, has nothing left to correct, and shows that time
pub record Rests (row : RowValue) (m : Timing) : Type 0 where
  pub osc : m.clock.osc ≡ oscillator row
  pub left : m.clock.left ≡ pos 0
  pub reading : m.clock.reading ≡ shown_at row m.clock.instant

-- the row of the slave at a position
abbrev pub row_there : SegmentValue → ℕ → RowValue
row_there s p = row_of s (row_at s p)

-- so does the clock of each measuring slave
abbrev pub AllRest : SegmentValue → List Slave → Type 0
AllRest s ss = (p : ℕ) (v : Slave) → slice_get ss p ≡ Some v → IfSome v.timing (Rests (row_there s p))
