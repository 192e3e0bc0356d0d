-- A state of the segment of a file, whatever frames have passed it.
use Rattle.std.specs.Prelude.{◌≡◌, ℕ, Some, length, slice_get}
use Rattle.frame_pass.specs.Invariants.{IsSoundSegment}
use Rattle.frame_pass.specs.SegmentState.{SegmentState}
use Rattle.frame_pass.specs.SlaveState.{Slave, fixed_part}
use Rattle.segment_file.specs.Segment.{SegmentValue, row_at}
use Rattle.segment_start.specs.Start.{slave_of}

-- what never changes of the slave at a position is as its row has it
abbrev pub IsFixed : SegmentValue → ℕ → Slave → Type 0
IsFixed s p v = fixed_part v ≡ fixed_part (slave_of s (row_at s p))

-- a slave for each row, sound and fixed so
pub record IsOfFile (s : SegmentValue) (t : SegmentState) : Type 0 where
  pub many : length t.slaves ≡ length s.rows
  pub sound : IsSoundSegment t
  pub fixed : (p : ℕ) (v : Slave) → slice_get t.slaves p ≡ Some v → IsFixed s p v
