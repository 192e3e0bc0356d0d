-- The offset (ESC data sheet, 0x0920) and the delay (0x0928) in the registers of slaves, as Set leaves them.
use Rattle.std.specs.Prelude.{◌≡◌, ℕ, true, false, List, Some, slice_get}
use Rattle.esc_regs.specs.RegisterFile.{Registers}
use Rattle.frame_pass.specs.SlaveState.{Slave, delay, offset}
use Rattle.segment_file.specs.Segment.{SegmentValue, clock_at, row_at}
use Rattle.master_script.specs.Words.{Words, delay_at, offset_at}
use Rattle.run_of_file.specs.MasterOfFile.{master_of}

-- a slave holds this offset and this delay, in ns
pub record HoldsSet (offset_ns delay_ns : ℕ) (r : Registers) : Type 0 where
  pub offset_is : offset r ≡ offset_ns
  pub delay_is : delay r ≡ delay_ns

-- each clock holds the offset and the measured delay of its position, by what the master has learned; every other slave
-- holds 0 and 0
pub record AreSet (s : SegmentValue) (w : Words) (ss : List Slave) : Type 0 where
  pub clocks : (p : ℕ) (v : Slave) → slice_get ss p ≡ Some v → clock_at s.rows (row_at s p) ≡ true
      → HoldsSet (offset_at (master_of s) w p) (delay_at (master_of s) w p) v.registers
  pub others : (p : ℕ) (v : Slave) → slice_get ss p ≡ Some v → clock_at s.rows (row_at s p) ≡ false → HoldsSet 0 0 v.registers
