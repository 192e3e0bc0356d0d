-- A measured delay has no more than 32 bits: it is near the true one, which is shorter than a frame period.
use Rattle.std.proofs.Common.{◌≡◌, ℕ, ◌+◌, ◌*◌, ◌^◌, ◌<◌, ◌≤◌, length, Option, Some, None, Ok, refl, ap, ◌∙◌, arith}
use Rattle.std.specs.Prelude.{slice_index_or, unwrap_or}
use Rattle.dc_bounds.specs.LockNumbers.{period_fs}
use Rattle.dc_bounds.specs.TickBounds.{jump, tick_gap}
use Rattle.dc_bounds.specs.TickFacts.{IsNear}
use Rattle.master_script.specs.Progress.{progress}
use Rattle.master_script.specs.Words.{Words, delay_at, delays_of}
use Rattle.segment_bounds.specs.Bounds.{wire_delay_at, delay_bound_at}
use Rattle.segment_bounds.proofs.Exported.{delay_short, small_copy_bound}
use Rattle.segment_file.specs.Legal.{IsLegal}
use Rattle.segment_file.specs.Segment.{SegmentValue, row_at}
use Rattle.segment_file.proofs.Exported.{row_within}
use Rattle.run_of_file.specs.MasterOfFile.{master_of}
use Rattle.run_of_file.specs.RunOfFile.{RunEnd, commissioned}
use Rattle.delay_law.proofs.Exported.{commissioned_near, kept_delays}

-- near a true delay of less than a period of at most 10 ms, within a bound of at most a quarter of it
few : (d delay bound differ drift frame_ns : ℕ) → IsNear (1000000 * d) delay bound → delay < 1000000 * frame_ns → 4 * (1000000 * differ + bound + 2 * drift) ≤ 1000000 * frame_ns → frame_ns ≤ 10000000
    → d < 2 ^ 32
few d delay bound differ drift frame_ns near short small most = omega (arith, near.above, short, small, most)

module _ (s : SegmentValue) (legal : IsLegal s) (run : RunEnd) (is : commissioned s ≡ Some run) (ok : run.answer ≡ Ok tt) where
  abbrev words : Words
  words = (progress (master_of s) run.exchanges).words

  pub delay_few : (p : ℕ) → p < length s.rows → delay_at (master_of s) words p < 2 ^ 32
  delay_few p low = by (slice_index_or (delays_of (master_of s) words) p None) refl
    where
      by : (o : Option ℕ) → slice_index_or (delays_of (master_of s) words) p None ≡ o → unwrap_or o 0 < 2 ^ 32
      by None e = omega arith
      by (Some d) e =
          let within = row_within s legal p low in
          let silence = (s.head.loss_run + 1) * period_fs s.head.frame_ns in
          few d (wire_delay_at s (row_at s p)) (delay_bound_at s (row_at s p)) (jump s.head.ppm silence) (tick_gap s.head.ppm (silence + wire_delay_at s (row_at s p))) s.head.frame_ns
          (commissioned_near s legal run is ok p d low (ap (λ ds. slice_index_or ds p None) (kept_delays s legal run is ok) ∙ e)) (delay_short s (row_at s p) legal within)
          (small_copy_bound s (row_at s p) legal within) legal.head.frame_ns.1
