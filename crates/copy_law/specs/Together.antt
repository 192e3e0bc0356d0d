-- How near the clocks of a run come to its reference, and stay.
use Rattle.std.specs.Prelude.{◌≡◌, ℕ, ◌+◌, ◌*◌, ◌%◌, ◌^◌, ◌<◌, ◌≤◌, min, unsigned_abs, ℤ, true, length, Some, Ok, slice_get}
use Rattle.std.specs.List.{Contains}
use Rattle.cable_tree.specs.PathSums.{round_trip}
use Rattle.cable_tree.specs.Positions.{position_of}
use Rattle.dc_bounds.specs.LockNumbers.{period_fs, reach_fs, silence_fs}
use Rattle.dc_bounds.specs.TickBounds.{jump}
use Rattle.copy_law.specs.History.{copy_of_run}
use Rattle.copy_law.specs.DriftFrames.{IsDriftFrame, brought}
use Rattle.ecat_link.specs.Exchanges.{Exchange}
use Rattle.esc_regs.specs.Kinds.{has_clock}
use Rattle.frame_pass.specs.SegmentState.{SegmentState}
use Rattle.frame_pass.specs.SlaveState.{Slave, width}
use Rattle.honest_slaves.specs.FileSlaves.{kind_at}
use Rattle.local_clock.specs.Reading.{received}
use Rattle.run_of_file.specs.RunOfFile.{RunEnd, ran, settled}
use Rattle.segment_bounds.specs.Bounds.{copy_bound_at, reference_row_of}
use Rattle.segment_file.specs.Faults.{lock_in}
use Rattle.segment_file.specs.Segment.{SegmentValue, clocks, counts_of, measuring, row_at, tree_rows}
use Rattle.wrap_time.specs.WordDifference.{word_difference}

-- Z: the time from the Latch that came back to the first drift frame that comes to a clock, at most
abbrev pub reach_of_segment : SegmentValue → ℕ
reach_of_segment s = reach_fs (measuring s.rows) (clocks s.rows) s.head.loss_run s.head.frame_ns

-- The size of a difference that drift frame k brings a clock: at most Q of the reach Z, and for k above the lock-in count K at most Q of
-- loss_run + 1 frame periods.
pub record IsWithinLock (s : SegmentValue) (k : ℕ) (d : ℤ) : Type 0 where
  pub ever : unsigned_abs d ≤ jump s.head.ppm (reach_of_segment s)
  pub locked : lock_in s.head (counts_of s.rows) < k
      → unsigned_abs d ≤ jump s.head.ppm (silence_fs s.head.loss_run s.head.frame_ns)

-- so is every difference that a drift frame of the run brings the slave at a position
abbrev pub AreLocked : SegmentValue → Type 0
AreLocked s =
    (k p at : ℕ) (d : ℤ) (t : SegmentState) (e : Exchange) (v : Slave) → IsDriftFrame s k t e → slice_get t.slaves p ≡ Some v
    → Contains (brought t e p v) (record { instant = at; event = received d }) → IsWithinLock s k d

-- how far the local copies of two clocks are apart at t, as a signed number of the smaller width
abbrev pub copies_apart : SegmentValue → RunEnd → ℕ → ℕ → ℕ → ℤ
copies_apart s run p r t =
    let w = min (width (kind_at s p)) (width (kind_at s r)) in
    word_difference w (copy_of_run s run p t % 2 ^ w) (copy_of_run s run r t % 2 ^ w)

-- Where settling ended with Ok after S frames, and the run, refused later or not, has T frames: from S periods and the round trip of a frame
-- on, to T + 1 periods, the copy of each clock is within X of that of the reference.
abbrev pub AreCopiesNear : SegmentValue → Type 0
AreCopiesNear s =
    (before run : RunEnd) (p t : ℕ) → settled s ≡ Some before → before.answer ≡ Ok tt → ran s ≡ Some run
    → p < length s.rows → has_clock (kind_at s p) ≡ true
    → length before.exchanges * period_fs s.head.frame_ns + round_trip (tree_rows s.rows) ≤ t
    → t ≤ (length run.exchanges + 1) * period_fs s.head.frame_ns
    → 1000000 * unsigned_abs (copies_apart s run p (position_of (tree_rows s.rows) (reference_row_of s)) t) ≤ copy_bound_at s (row_at s p)
