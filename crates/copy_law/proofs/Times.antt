-- The system time of a clock behind commissioning.
use Rattle.std.proofs.Common.{◌≡◌, ℕ, ◌+◌, ◌-◌, ◌*◌, ◌%◌, ◌^◌, ◌<◌, ◌≤◌, [], length, Option, Some, Ok, true, refl, sym, ap, ap₂, subst, ◌∙◌, arith}
use Rattle.std.specs.Prelude.{IfSome, slice_get}
use Rattle.std.proofs.Math.Nat.{mod-eq_of_lt, mod-lt}
use Rattle.std.proofs.lemmas.Nat.{pow_pos}
use Rattle.esc_regs.specs.declared.clock_kind.ClockKind.{ClockKind}
use Rattle.esc_regs.specs.declared.clock_kind.ClockKind.TheVariants as kind
use Rattle.frame_pass.specs.Advancing.{measuring_at}
use Rattle.frame_pass.specs.LiveRegisters.{system_time}
use Rattle.frame_pass.specs.SlaveState.{Slave, Timing, offset, width}
use Rattle.frame_pass.proofs.Exported.{of_start, time_then, sound_at}
use Rattle.osc_clock.specs.Ticks.{IsRunning, ticks}
use Rattle.osc_clock.proofs.Exported.{ticks_rise}
use Rattle.local_clock.specs.Reading.{advanced}
use Rattle.wrap_time.specs.WordLess.{word_less}
use Rattle.wrap_time.proofs.Exported.{difference_of_cut, offset_sum}
use Rattle.frame_pass.specs.Copies.{copy_at}
use Rattle.master_script.specs.Progress.{progress}
use Rattle.master_script.specs.Words.{Words, delay_at, offset_at}
use Rattle.segment_file.specs.Legal.{IsLegal}
use Rattle.segment_file.specs.Segment.{RowValue, SegmentValue, clock_at, oscillator, row_at}
use Rattle.honest_slaves.proofs.Exported.{low_where}
use Rattle.run_of_file.specs.MasterOfFile.{master_of}
use Rattle.run_of_file.specs.RunOfFile.{RunEnd, commissioned}
use Rattle.delay_law.specs.Resting.{Rests, row_there, shown_at, time_at}
use Rattle.delay_law.specs.OfFile.{IsFixed}
use Rattle.delay_law.proofs.Exported.{keeps_there, kind_there, measures_there, counts_on, way_of, IsOnWay}
use Rattle.copy_law.specs.HeldOffsets.{HoldsSet}
use Rattle.copy_law.specs.SinceLatch.{counted_ns, latch_arrival}
use Rattle.copy_law.proofs.Delays.{delay_few}
use Rattle.copy_law.proofs.Readings.{offset_by_reading}
use Rattle.copy_law.proofs.Runs.{commissioned_set}

said : (P : Timing → Type 0) (o : Option Timing) (m : Timing) → o ≡ Some m → IfSome o P → P m
said P o m e h = subst (λ (x : Option Timing). IfSome x P) e h

-- 32 bits are no more than those of a clock
pub word_few : (k : ClockKind) (d : ℕ) → d < 2 ^ 32 → d < 2 ^ width k
unfolding width
word_few kind.None d few = few
word_few kind.R32 d few = few
word_few kind.C32 d few = few
word_few kind.C64 d few = omega (arith, few)

-- what a clock has counted between two instants
between : (row : RowValue) (at t : ℕ) → at ≤ t → IsRunning (oscillator row) → (time_at row at ≤ time_at row t) × (time_at row t - time_at row at ≡ 10 * (ticks (oscillator row) t - ticks (oscillator row) at))
between row at t late running = let rise = ticks_rise (oscillator row) at t running late in (omega (arith, rise), omega (arith, rise))

-- the copy that a clock shows whose offset is by what it showed then
copy_since : (row : RowValue) (w epoch d at t : ℕ) → w ≡ width row.kind → at ≤ t → IsRunning (oscillator row)
    → (shown_at row t + word_less w (epoch + d) (shown_at row at)) % 2 ^ w ≡ (epoch + d + 10 * (ticks (oscillator row) t - ticks (oscillator row) at)) % 2 ^ w
copy_since row w epoch d at t is late running =
    let b = between row at t late running in
    ap (λ k. (time_at row t % 2 ^ k + word_less w (epoch + d) (time_at row at % 2 ^ k)) % 2 ^ w) (sym is)
    ∙ offset_sum w (epoch + d) (time_at row at % 2 ^ w) (time_at row t) (time_at row at) b.0 refl ∙ ap (λ x. (epoch + d + x) % 2 ^ w) b.1

-- less its delay
pub time_since : (w epoch d counted : ℕ) → d < 2 ^ w → ((epoch + d + counted) % 2 ^ w + (2 ^ w - d)) % 2 ^ w ≡ (epoch + counted) % 2 ^ w
time_since w epoch d counted few =
    let less : epoch + d + counted - d ≡ epoch + counted = omega arith in
    ap (λ x. ((epoch + d + counted) % 2 ^ w + (2 ^ w - x)) % 2 ^ w) (sym (mod-eq_of_lt few)) ∙ difference_of_cut w (epoch + d + counted) d (omega arith) ∙ ap (λ x. x % 2 ^ w) less

module _ (s : SegmentValue) (run : RunEnd) (p : ℕ) (v : Slave) (m : Timing) (t : ℕ) (legal : IsLegal s) (is : commissioned s ≡ Some run) (ok : run.answer ≡ Ok tt) (there : slice_get run.state.slaves p ≡ Some v)
    (clock : clock_at s.rows (row_at s p) ≡ true) (has : v.timing ≡ Some m) (early : m.clock.instant ≤ t) (late : latch_arrival s (progress (master_of s) run.exchanges).words p ≤ t) where
  abbrev words : Words
  words = (progress (master_of s) run.exchanges).words

  abbrev row : RowValue
  row = row_there s p

  abbrev bits : ℕ
  bits = width row.kind

  abbrev measured : ℕ
  measured = delay_at (master_of s) words p

  way : IsOnWay s legal run.exchanges run.state
  way = way_of s legal run is

  low : p < length s.rows
  low = let within = low_where run.state.slaves p v there in let many = way.many in omega (arith, within, many)

  fixed : IsFixed s p v
  fixed = way.fixed p v there

  rests : Rests row m
  rests = said (Rests row) v.timing m has (way.rests p v there)

  running : IsRunning (oscillator row)
  running = (keeps_there s legal p low (measures_there s legal p v m fixed has)).0

  holds : HoldsSet (offset_at (master_of s) words p) measured v.registers
  holds = (commissioned_set s legal run is ok).clocks p v there clock

  shows : (advanced bits t m.clock).reading ≡ shown_at row t
  shows = (counts_on row.start bits (oscillator row) running t m.clock early (record { osc = rests.osc; left = rests.left; reading = rests.reading })).reading

  pub copy_then : copy_at bits m.clock [] (offset v.registers) t ≡ (s.head.epoch_ns + measured + counted_ns s words p t) % 2 ^ bits
  copy_then =
      ap₂ (λ x y. (x + y) % 2 ^ bits) shows (holds.offset_is ∙ offset_by_reading s run legal is ok p low clock)
      ∙ copy_since row bits s.head.epoch_ns measured (latch_arrival s words p) t refl late running

  pub system_time_then : system_time (measuring_at t (record { registers = v.registers; timing = m })) ≡ (s.head.epoch_ns + counted_ns s words p t) % 2 ^ bits
  system_time_then =
      let size = (sound_at run.state.round_trip run.state.free run.state.slaves p v way.sound there).size in
      let fits : m.clock.reading < 2 ^ bits = subst (λ x. x < 2 ^ bits) (sym rests.reading) (mod-lt _ (pow_pos bits)) in
      time_then bits m.clock [] t v m (subst IsRunning (sym rests.osc) running) has size early (of_start bits v m has (ap width (kind_there s legal p v fixed)) fits)
      ∙ ap₂ (λ x d. (x + (2 ^ bits - d)) % 2 ^ bits) copy_then holds.delay_is
      ∙ time_since bits s.head.epoch_ns measured (counted_ns s words p t) (word_few row.kind measured (delay_few s legal run is ok p low))
