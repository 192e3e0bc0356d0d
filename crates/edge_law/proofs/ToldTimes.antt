-- The time that a master makes of the low half of the reference's.
use Rattle.std.proofs.Common.{◌≡◌, ℕ, ◌+◌, ◌-◌, ◌*◌, ◌%◌, ◌^◌, ◌<◌, ◌≤◌, length, ap, ◌∙◌, arith}
use Rattle.std.proofs.Math.Nat.{mod-eq_of_lt, mul-le-mul_right}
use Rattle.copy_law.specs.Drawn.{arrives_at}
use Rattle.copy_law.specs.Receipts.{IsReference}
use Rattle.copy_law.specs.SinceLatch.{latch_arrival}
use Rattle.copy_law.specs.WholeTimes.{reference_time}
use Rattle.copy_law.proofs.Exported.{few_behind, latched_within, periods_between, reference_clock, reference_low, ticks_over}
use Rattle.copy_law.proofs.Readings.{clock_measures}
use Rattle.dc_bounds.specs.LockNumbers.{period_fs}
use Rattle.dc_bounds.specs.RunNumbers.{lead_ns, start_ns}
use Rattle.dc_bounds.specs.TickBounds.{tick_fs, tick_gap}
use Rattle.dc_bounds.specs.TickFacts.{AreTicksOf, IsWithin}
use Rattle.dc_bounds.proofs.Exported.{start_after, start_fits, tick_gap_near}
use Rattle.delay_law.specs.Resting.{row_there}
use Rattle.delay_law.proofs.Exported.{keeps_there}
use Rattle.honest_slaves.specs.FileSlaves.{kind_at}
use Rattle.master_script.specs.Words.{Words}
use Rattle.osc_clock.specs.Ticks.{IsRunning, Oscillator, ticks}
use Rattle.run_counts.specs.Transmissions.{settling_sends}
use Rattle.run_of_file.specs.Commissioned.{IsCommissioned, words_after}
use Rattle.run_of_file.specs.MasterOfFile.{master_of}
use Rattle.run_of_file.specs.RunOfFile.{RunEnd}
use Rattle.segment_file.specs.Segment.{SegmentValue, clocks, oscillator, tree_row}
use Rattle.segment_file.proofs.Exported.{counted, legal_frames}
use Rattle.std.proofs.lemmas.List.{length-map}
use Rattle.wrap_time.specs.Extended.{extended}
use Rattle.wrap_time.specs.NearNumbers.{AreNear}
use Rattle.wrap_time.proofs.Exported.{times_extended}

-- A time beside which another one is near is told by its low half.
pub time_again : (u expected : ℕ) → AreNear 32 u expected → u < 2 ^ 63 → expected < 2 ^ 63 → extended (u % 2 ^ 32) (expected % 2 ^ 64) ≡ u
time_again u expected near early soon =
    ap (extended (u % 2 ^ 32)) (mod-eq_of_lt (let less : expected < 2 ^ 64 = omega (arith, soon) in less)) ∙ times_extended u expected near
    ∙ mod-eq_of_lt (let less : u < 2 ^ 64 = omega (arith, early) in less)

-- Of at most 100,000 frame periods the ticks and the periods are nearly the same time.
ticks_near : (ppm frame_ns n d epoch : ℕ) → ppm ≤ 100 → frame_ns ≤ 10000000 → d ≤ 100000 → AreTicksOf ppm (d * period_fs frame_ns) n → AreNear 32 (epoch + 10 * n) (epoch + frame_ns * d)
ticks_near ppm frame_ns n d epoch small short few ticks =
    let long = mul-le-mul_right (period_fs frame_ns) few in
    sum (frame_ns * d) (d * period_fs frame_ns) n (tick_gap ppm (d * period_fs frame_ns)) ticks.gap.above ticks.gap.below (tick_gap_near ppm (d * period_fs frame_ns) small) (omega (arith, long, short)) (omega arith)
  where
    sum : (x l n g : ℕ) → tick_fs * n ≤ l + g → l ≤ tick_fs * n + g → 9999 * g ≤ l + 9999 * 10002000 → l ≤ 1000000000000000000 → l ≡ 1000000 * x → AreNear 32 (epoch + 10 * n) (epoch + x)
    sum x l n g up down gap few is = record { above = omega (arith, up, gap, few, is); below = omega (arith, down, gap, few, is) }

expected_early : (epoch frame_ns d : ℕ) → epoch ≤ 4000000000000000000 → frame_ns ≤ 10000000 → d ≤ 100000 → epoch + frame_ns * d < 2 ^ 63
expected_early epoch frame_ns d old short few = let long = mul-le-mul_right frame_ns few in omega (arith, long, short, old)

module _ (s : SegmentValue) (first : RunEnd) (it : IsCommissioned s first) (r : ℕ) (reference : IsReference s r) where
  abbrev words : Words
  words = words_after s first

  abbrev o : Oscillator
  o = oscillator (row_there s r)

  abbrev period : ℕ
  period = period_fs s.head.frame_ns

  -- the periods from the Latch that came back to a drift frame of settling
  abbrev pub since : ℕ → ℕ
  since k = length first.exchanges + k - words.latched

  -- how often the reference has ticked in them
  abbrev counted_then : ℕ → ℕ
  counted_then k = ticks o (arrives_at s first k r) - ticks o (latch_arrival s words r)

  module _ (k : ℕ) (within : k ≤ settling_sends s) where
    few : since k ≤ 100000
    few =
        let after = few_behind s it.legal first it.is it.ok in
        let most = legal_frames s it.legal in
        omega (arith, after, most, within)

    keeps : IsRunning o × IsWithin s.head.ppm o
    keeps = keeps_there s it.legal r (reference_low s it.legal r reference) (clock_measures (kind_at s r) (reference_clock s it.legal r reference))

    far : arrives_at s first k r ≡ latch_arrival s words r + since k * period
    far =
        let early = latched_within (master_of s) first.exchanges in
        let parts = periods_between words.latched (length first.exchanges + k) period (omega (arith, early)) in
        omega (arith, parts)

    ticks_then : AreTicksOf s.head.ppm (since k * period) (counted_then k)
    ticks_then = (ticks_over o s.head.ppm (latch_arrival s words r) (arrives_at s first k r) (since k * period) keeps.0 it.legal.head.ppm keeps.1 far).0

    pub start_early : start_ns (reference_time s words r (arrives_at s first k r)) (lead_ns (clocks s.rows) s.head.loss_run s.head.frame_ns) s.head.cycle_ns < 2 ^ 63
    start_early =
        let rows = it.legal.tree.few in
        let many = length-map s.rows tree_row in
        let c = counted s.rows (omega (arith, rows, many)) in
        let measure = c.measuring in
        let count = c.clocks in
        start_fits s.head.ppm (clocks s.rows) s.head.loss_run s.head.frame_ns s.head.cycle_ns s.head.epoch_ns (since k * period) (counted_then k) it.legal.head.ppm (omega (arith, measure, count))
        it.legal.head.loss_run it.legal.head.frame_ns.1 it.legal.head.cycle_ns.1 it.legal.head.epoch_ns ticks_then (mul-le-mul_right period few)

    time_early : reference_time s words r (arrives_at s first k r) < 2 ^ 63
    time_early =
        let fits = start_early in
        let least = it.legal.head.cycle_ns.0 in
        let after = start_after (reference_time s words r (arrives_at s first k r)) (lead_ns (clocks s.rows) s.head.loss_run s.head.frame_ns) s.head.cycle_ns (omega (arith, least)) in
        omega (arith, fits, after)

    -- the low half of the reference's time, beside the periods since that Latch
    pub whole_again : extended (reference_time s words r (arrives_at s first k r) % 2 ^ 32) ((s.head.epoch_ns + s.head.frame_ns * since k) % 2 ^ 64) ≡ reference_time s words r (arrives_at s first k r)
    whole_again =
        time_again (reference_time s words r (arrives_at s first k r)) (s.head.epoch_ns + s.head.frame_ns * since k)
        (ticks_near s.head.ppm s.head.frame_ns (counted_then k) (since k) s.head.epoch_ns it.legal.head.ppm it.legal.head.frame_ns.1 few ticks_then)
        time_early (expected_early s.head.epoch_ns s.head.frame_ns (since k) it.legal.head.epoch_ns it.legal.head.frame_ns.1 few)
