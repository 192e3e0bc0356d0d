-- How often the clocks of a file correct.
use Rattle.std.specs.Prelude.{◌≡◌, ℕ, true, List, Some, slice_get}
use Rattle.dc_bounds.specs.LockNumbers.{ticks_to_correction as ticks_by_speed}
use Rattle.esc_regs.specs.Kinds.{has_clock}
use Rattle.frame_pass.specs.SlaveState.{Slave}
use Rattle.honest_slaves.specs.FileSlaves.{kind_at}
use Rattle.segment_file.specs.Segment.{SegmentValue}
use Rattle.copy_law.specs.Untouched.{ticks_to_correction}

-- each clock takes as many ticks to a correction as the file's speed says; a slave that only measures receive times is not asked
abbrev pub AllCorrect : SegmentValue → List Slave → Type 0
AllCorrect s ss =
    (p : ℕ) (v : Slave) → slice_get ss p ≡ Some v → has_clock (kind_at s p) ≡ true
    → ticks_to_correction v ≡ Some (ticks_by_speed s.head.speed)
