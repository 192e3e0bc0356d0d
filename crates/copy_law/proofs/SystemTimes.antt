-- The word of a clock's system time behind drift frames is that of a whole number.
use Rattle.std.proofs.Common.{◌≡◌, ℕ, ◌+◌, ◌-◌, ◌%◌, ◌^◌, ◌<◌, ◌≤◌, List, ◌++◌, length, Option, Some, true, sym, ap, ap₂, ◌∙◌, arith}
use Rattle.std.specs.Prelude.{slice_get}
use Rattle.std.specs.Option.{option_map_or}
use Rattle.copy_law.specs.Drifting.{IsBehind, StandsBehind}
use Rattle.copy_law.specs.HeldOffsets.{HoldsSet}
use Rattle.copy_law.specs.History.{clock_of, history_from}
use Rattle.copy_law.specs.SinceLatch.{latch_arrival}
use Rattle.copy_law.specs.WholeTimes.{whole_copy, whole_time}
use Rattle.copy_law.proofs.Copies.{copy_behind}
use Rattle.copy_law.proofs.Delays.{delay_few}
use Rattle.copy_law.proofs.History.{has_behind, running}
use Rattle.copy_law.proofs.Standing.{stands_behind}
use Rattle.copy_law.proofs.Times.{time_since, word_few}
use Rattle.delay_law.specs.Resting.{row_there}
use Rattle.esc_regs.specs.Kinds.{has_clock}
use Rattle.frame_pass.specs.Advancing.{measuring_at}
use Rattle.frame_pass.specs.Copies.{copy_at}
use Rattle.frame_pass.specs.LiveRegisters.{system_time}
use Rattle.frame_pass.specs.SegmentState.{SegmentState}
use Rattle.frame_pass.specs.SlaveState.{Slave, Timing, offset, width}
use Rattle.frame_pass.proofs.Exported.{sound_at, time_then}
use Rattle.honest_slaves.specs.FileSlaves.{kind_at}
use Rattle.honest_slaves.proofs.Exported.{row_has}
use Rattle.local_clock.specs.LocalTime.{local_time}
use Rattle.local_clock.specs.Reading.{Clock, Happening}
use Rattle.master_script.specs.Words.{Words, delay_at, offset_at}
use Rattle.run_of_file.specs.Commissioned.{words_after}
use Rattle.run_of_file.specs.MasterOfFile.{master_of}
use Rattle.segment_file.specs.Legal.{IsLegal}
use Rattle.segment_file.specs.Segment.{SegmentValue}
use Rattle.segment_start.specs.Start.{started_segment}

module _ (s : SegmentValue) (legal : IsLegal s) (k : ℕ) (u : SegmentState) (b : IsBehind s k u) (p : ℕ) (low : p < length s.rows) (is : has_clock (kind_at s p) ≡ true) (v : Slave) (m : Timing)
    (there : slice_get u.slaves p ≡ Some v) (has : v.timing ≡ Some m) (t : ℕ) (early : m.clock.instant ≤ t) (after : latch_arrival s (words_after s b.first) p ≤ t) where
  abbrev words : Words
  words = words_after s b.first

  abbrev bits : ℕ
  bits = width (kind_at s p)

  abbrev clock : Clock
  clock = clock_of (row_there s p)

  abbrev measured : ℕ
  measured = delay_at (master_of s) (words_after s b.first) p

  abbrev events : List Happening
  events = history_from (started_segment s) (b.first.exchanges ++ b.before) p

  stands : StandsBehind s b.first k u
  stands = stands_behind s legal k u b

  holds : HoldsSet (offset_at (master_of s) words p) measured v.registers
  holds = stands.set.clocks p v there (sym (row_has has_clock s legal p low) ∙ is)

  copy_is : copy_at bits clock events (offset v.registers) t ≡ whole_copy s words p events t % 2 ^ bits
  copy_is =
      ap (λ (o : Option Slave). copy_at bits clock events (option_map_or (λ (x : Slave). offset x.registers) o 0) t) (sym there)
      ∙ copy_behind s legal b.first b.commissioned b.ok p low is k u b t after

  pub time_behind : system_time (measuring_at t (record { registers = v.registers; timing = m })) ≡ whole_time s words p events t % 2 ^ bits
  time_behind =
      let size = (sound_at u.round_trip u.free u.slaves p v stands.file.sound there).size in
      let gone = local_time clock events t - local_time clock events (latch_arrival s words p) in
      let turned : s.head.epoch_ns + gone + measured ≡ s.head.epoch_ns + measured + gone = omega arith in
      time_then bits clock events t v m (running s legal p low is) has size early (has_behind s legal k p u v b low is there)
      ∙ ap₂ (λ x d. (x + (2 ^ bits - d)) % 2 ^ bits) (copy_is ∙ ap (λ x. x % 2 ^ bits) turned) holds.delay_is
      ∙ time_since bits s.head.epoch_ns measured gone (word_few (kind_at s p) measured (delay_few s legal b.first b.commissioned b.ok p low))
