-- When a unit of a run raises its edges: at the ticks at which the whole copy of its clock has come to what is due.
use Rattle.std.proofs.Common.{◌≡◌, ℕ, zero, suc, ◌+◌, ◌-◌, ◌*◌, ◌%◌, ◌^◌, ◌<◌, ◌≤◌, true, List, [], ◌++◌, length, Option, Some, refl, sym, ap, subst, ◌∙◌, arith, inl, inr}
use Rattle.std.specs.Prelude.{slice_get}
use Rattle.std.specs.Option.{option_map_or}
use Rattle.std.proofs.lemmas.Bool.{cases_lt}
use Rattle.std.proofs.lemmas.List.{append-nil}
use Rattle.copy_law.specs.Drifting.{IsBehind}
use Rattle.copy_law.specs.History.{clock_of, history_from, offset_of}
use Rattle.copy_law.specs.SinceLatch.{latch_arrival}
use Rattle.copy_law.specs.WholeTimes.{whole_copy}
use Rattle.copy_law.proofs.BehindLatch.{ran_set, whole_set}
use Rattle.copy_law.proofs.Exported.{copy_then, file_first, file_step, ordered, running}
use Rattle.delay_law.specs.OfFile.{IsOfFile}
use Rattle.ecat_link.specs.Exchanges.{Exchange}
use Rattle.run_counts.proofs.Exported.{ran_drifted}
use Rattle.run_of_file.proofs.Exported.{kept_by_runs, ran_exchanges}
use Rattle.segment_file.specs.Legal.{IsLegal}
use Rattle.delay_law.specs.Resting.{row_there}
use Rattle.esc_regs.specs.Kinds.{has_clock}
use Rattle.frame_pass.specs.Copies.{HasCopies, copy_at}
use Rattle.frame_pass.specs.SlaveState.{Slave, offset, width}
use Rattle.honest_slaves.specs.FileSlaves.{kind_at}
use Rattle.honest_slaves.proofs.Exported.{had_before, row_has}
use Rattle.local_clock.specs.Reading.{AreInOrder, Clock, Happening}
use Rattle.local_clock.proofs.Exported.{rises}
use Rattle.master_script.specs.Words.{Words}
use Rattle.osc_clock.specs.Ticks.{IsRunning, Oscillator, instant, ticks}
use Rattle.osc_clock.proofs.Exported.{not_after, ticks_at, ticks_rise}
use Rattle.run_of_file.specs.Commissioned.{IsCommissioned, words_after}
use Rattle.run_of_file.specs.RunOfFile.{RunEnd, ran, run_of}
use Rattle.segment_file.specs.Segment.{SegmentValue, clock_at, oscillator, row_at}
use Rattle.segment_start.specs.Start.{started_segment}
use Rattle.sync_units.specs.Calls.{Call, copy_in, ticks_of_calls}
use Rattle.sync_units.specs.Rising.{AreRising, AreWordsOf}

some_same : {X : Type 0} {x y : X} → Some x ≡ Some y → x ≡ y
some_same e = cc

-- The instants of the ticks behind an instant, which is number 0.
module _ (o : Oscillator) (run : IsRunning o) (ta : ℕ) where
  abbrev pub time : ℕ → ℕ
  time zero = ta
  time (suc i) = instant o (ticks o ta + suc i)

  pub ticks_then : (i : ℕ) → ticks o (time i) ≡ ticks o ta + i
  ticks_then zero = omega arith
  ticks_then (suc i) = ticks_at o (ticks o ta + suc i) run

  -- they rise with their numbers
  pub time_rises : (i j : ℕ) → i ≤ j → time i ≤ time j
  time_rises i j le =
      elim (cases_lt (time j) (time i)) [
        | inr in_order ↦ in_order
        | inl back ↦
            let fewer = ticks_rise o (time j) (time i) run (omega (arith, back)) in
            let a = ticks_then i in
            let b = ticks_then j in
            elim (cases_lt i j) [
              | inl less ↦ absurd (omega (arith, fewer, a, b, less))
              | inr more ↦ let same : i ≡ j = omega (arith, le, more) in let here = ap time same in absurd (omega (arith, back, here))
            ]
      ]

  pub time_after : (i : ℕ) → 0 < i → ta < time i
  time_after i some =
      elim (cases_lt ta (time i)) [
        | inl after ↦ after
        | inr until ↦
            let more = ticks_rise o (time i) ta run until in
            let a = ticks_then i in
            absurd (omega (arith, more, a, some))
      ]

  pub time_by : (end i : ℕ) → ta ≤ end → i ≤ ticks o end - ticks o ta → time i ≤ end
  time_by end zero late few = late
  time_by end (suc i) late few =
      let rise = ticks_rise o ta end run late in
      not_after o end (ticks o ta + suc i) run (omega (arith, few, rise))

-- the slaves at the end of the last phase are those of the file
last_file : (s : SegmentValue) (legal : IsLegal s) (last : RunEnd) → ran s ≡ Some last → IsOfFile s last.state
last_file s legal last is = kept_by_runs (IsOfFile s) (file_step s legal) last.exchanges (started_segment s) last.state (ran_exchanges s last is) (file_first s legal)

-- behind all of its frames
abbrev pub whole_behind : (s : SegmentValue) (first last : RunEnd) (it : IsCommissioned s first) (is : ran s ≡ Some last) → IsBehind s (length (ran_drifted s it.legal first last it.is is).more) last.state
whole_behind s first last it is =
    let d = ran_drifted s it.legal first last it.is is in
    record {
      first = first;
      run = last;
      commissioned = it.is;
      ok = it.ok;
      ran = is;
      before = d.more;
      rest = [];
      all = d.all ∙ ap (λ (es : List Exchange). first.exchanges ++ es) (sym (append-nil d.more));
      number = refl;
      led = d.runs;
    }

-- events of a run are in order
ordered_run : (s : SegmentValue) (first last : RunEnd) (it : IsCommissioned s first) (is : ran s ≡ Some last) (p : ℕ) → p < length s.rows → has_clock (kind_at s p) ≡ true
    → AreInOrder 0 (history_from (started_segment s) last.exchanges p)
ordered_run s first last it is p low clock =
    let d = ran_drifted s it.legal first last it.is is in
    subst (λ (es : List Exchange). AreInOrder 0 (history_from (started_segment s) es p)) (sym d.all)
    (ordered s it.legal first it.is it.ok p low clock (length d.more) last.state (whole_behind s first last it is))

-- The copies of a clock at these ticks, as whole numbers and as words.
module _ (s : SegmentValue) (first last run : RunEnd) (it : IsCommissioned s first) (last_is : ran s ≡ Some last) (run_is : run_of s ≡ Some run) (all : run.exchanges ≡ last.exchanges)
    (p : ℕ) (low : p < length s.rows) (is : has_clock (kind_at s p) ≡ true) (v : Slave) (there : slice_get run.state.slaves p ≡ Some v) where
  abbrev words : Words
  words = words_after s first

  abbrev w : ℕ
  w = width (kind_at s p)

  abbrev o : Oscillator
  o = oscillator (row_there s p)

  abbrev c : Clock
  c = clock_of (row_there s p)

  abbrev events : List Happening
  events = history_from (started_segment s) run.exchanges p

  abbrev latch : ℕ
  latch = latch_arrival s words p

  pub runs : IsRunning o
  runs = running s it.legal p low is

  clocked : clock_at s.rows (row_at s p) ≡ true
  clocked = sym (row_has has_clock s it.legal p low) ∙ is

  -- the offset is the one that is held at the end of the last phase
  same_offset : offset_of last.state p ≡ offset v.registers
  same_offset =
      let file = last_file s it.legal last last_is in
      let many = file.many in
      let u = had_before last.state.slaves p (omega (arith, many, low)) in
      ap (λ (x : Option Slave). option_map_or (λ (y : Slave). offset y.registers) x 0) u.is
      ∙ ((ran_set s it.legal first it.is it.ok last last_is).clocks p u.slave u.is clocked).offset_is
      ∙ sym ((whole_set s it.legal first it.is it.ok run run_is).clocks p v there clocked).offset_is

  pub copy_is : (t : ℕ) → latch ≤ t → copy_at w c events (offset v.registers) t ≡ whole_copy s words p events t % 2 ^ w
  copy_is t after =
      ap (λ (x : ℕ). copy_at w c events x t) (sym same_offset)
      ∙ subst (λ (hs : List Happening). copy_at w c hs (offset_of last.state p) t ≡ whole_copy s words p hs t % 2 ^ w)
      (ap (λ (es : List Exchange). history_from (started_segment s) es p) (sym all)) (copy_then s first last it last_is p t low is after)

  pub in_order : AreInOrder 0 events
  in_order =
      subst (λ (es : List Exchange). AreInOrder 0 (history_from (started_segment s) es p)) (sym all)
      (ordered_run s first last it last_is p low is)

  -- from the arming on
  module _ (ta : ℕ) (late : latch ≤ ta) where
    abbrev pub at : ℕ → ℕ
    at = time o runs ta

    abbrev pub whole : ℕ → ℕ
    whole i = whole_copy s words p events (at i)

    pub whole_rise : (i k : ℕ) → (whole i + 9 * k ≤ whole (i + k)) × (whole (i + k) ≤ whole i + 11 * k)
    whole_rise i k =
        let a = ticks_then o runs ta i in
        let b = ticks_then o runs ta (i + k) in
        let from = time_rises o runs ta 0 i (omega arith) in
        let up = time_rises o runs ta i (i + k) (omega arith) in
        let r = rises (at i) (at (i + k)) k c events runs (omega arith) up in_order (omega (arith, a, b)) in
        let base = rises latch (at i) (ticks o (at i) - ticks o latch) c events runs (omega arith) (omega (arith, late, from)) in_order
        (let rise = ticks_rise o latch (at i) runs (omega (arith, late, from)) in omega (arith, rise)) in
        let low = base.0 in
        let least = r.0 in
        let most = r.1 in
        (omega (arith, low, least), omega (arith, low, least, most))

    pub rising_all : (n : ℕ) → AreRising whole n
    rising_all n i less =
        let r = whole_rise i 1 in
        let least = r.0 in
        let most = r.1 in
        let same : i + 1 ≡ suc i = omega arith in
        let here = ap whole same in
        (omega (arith, least, here), omega (arith, most, here))

    -- the copies in the calls of the unit are their words
    pub words_of : (calls : List Call) → HasCopies w c events ta calls v → AreWordsOf w whole (copy_in w calls) (ticks_of_calls o ta calls)
    words_of calls h zero some few = absurd (omega (arith, some))
    words_of calls h (suc i) some few =
        let from = time_rises o runs ta 0 (suc i) (omega arith) in
        h.copies (suc i) (omega arith) few ∙ copy_is (at (suc i)) (omega (arith, late, from))
