-- The lock-in line: after how many drift frames the clocks are together, and how far a clock can then drift from the reference until the
-- next frame comes, with as many lost between as there may be.
use Rattle.std.specs.Prelude.{ℕ, List, [], ◌∷◌, ◌++◌, codes, decimal}
use Rattle.dc_bounds.specs.LockNumbers.{silence_fs}
use Rattle.dc_bounds.specs.TickBounds.{jump}
use Rattle.segment_file.specs.Faults.{lock_in}
use Rattle.segment_file.specs.Segment.{SegmentValue, counts_of}

-- `lock_in K difference_ns Q`
unfoldable pub lock_in_text : ℕ → ℕ → List ℕ
lock_in_text frames difference = codes "lock_in " ++ (decimal frames ++ (codes " difference_ns " ++ (decimal difference ++ 10 ∷ [])))

-- Q of loss_run + 1 frame periods, in ns
abbrev pub difference_ns : SegmentValue → ℕ
difference_ns s = jump s.head.ppm (silence_fs s.head.loss_run s.head.frame_ns)

abbrev pub lock_in_line : SegmentValue → List ℕ
lock_in_line s = lock_in_text (lock_in s.head (counts_of s.rows)) (difference_ns s)
