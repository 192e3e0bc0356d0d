-- The word of a clock's local copy in a run is that of a whole number, and of the reference that number is 10 ns a tick.
use Rattle.std.proofs.Common.{◌≡◌, ℕ, ◌+◌, ◌-◌, ◌*◌, ◌%◌, ◌^◌, ◌<◌, ◌≤◌, Bool, true, false, List, [], ◌∷◌, ◌++◌, length, Option, Some, Ok, refl, sym, ap, subst, ◌∙◌, append_assoc, arith}
use Rattle.std.specs.Prelude.{IfSome, if◌then◌else◌, slice_get}
use Rattle.std.specs.List.{AllByRecursion}
use Rattle.std.specs.Option.{option_map_or}
use Rattle.std.proofs.Math.Nat.{add-mul, mul-le-mul_right}
use Rattle.std.proofs.lemmas.Bool.{eq-eqb}
use Rattle.std.proofs.lemmas.List.{append-nil}
use Rattle.cable_tree.specs.PathSums.{arrive}
use Rattle.cable_tree.specs.Positions.{position_of}
use Rattle.copy_law.specs.Drifting.{IsBehind}
use Rattle.copy_law.specs.History.{brought_to, clock_of, copy_of_run, history_from, offset_of}
use Rattle.copy_law.specs.DriftFrames.{IsDriftFrame, sent_at}
use Rattle.copy_law.specs.Receipts.{IsReference, receipt, receives}
use Rattle.copy_law.specs.SinceLatch.{latch_arrival}
use Rattle.copy_law.specs.WholeTimes.{reference_time, whole_copy}
use Rattle.copy_law.proofs.Bringing.{frame_brings}
use Rattle.copy_law.proofs.Drifting.{found_behind}
use Rattle.copy_law.proofs.First.{reference_clock, reference_low}
use Rattle.copy_law.proofs.Histories.{first_resets, history_induction}
use Rattle.copy_law.proofs.History.{has_behind, running}
use Rattle.copy_law.proofs.Latched.{latched_within}
use Rattle.copy_law.proofs.Readings.{clock_measures, offset_by_reading, reference_delay}
use Rattle.copy_law.proofs.Standing.{stands_behind}
use Rattle.copy_law.proofs.Whole.{order_later, whole_not_yet, whole_rests}
use Rattle.dc_bounds.specs.LockNumbers.{period_fs}
use Rattle.delay_law.specs.OfFile.{IsOfFile}
use Rattle.delay_law.specs.Resting.{row_there, shown_at}
use Rattle.delay_law.proofs.Exported.{arrives_there, has_there, late}
use Rattle.ecat_link.specs.Exchanges.{Exchange}
use Rattle.esc_regs.specs.Kinds.{has_clock}
use Rattle.frame_pass.specs.ClockHistory.{IsOf}
use Rattle.frame_pass.specs.Copies.{copy_at}
use Rattle.frame_pass.specs.SegmentState.{SegmentState}
use Rattle.frame_pass.specs.SlaveState.{Slave, Timing, offset, width}
use Rattle.honest_slaves.specs.FileSlaves.{kind_at}
use Rattle.honest_slaves.proofs.Exported.{had_before, row_has}
use Rattle.local_clock.specs.LocalTime.{local_time}
use Rattle.local_clock.specs.Reading.{AreInOrder, Clock, Happening, reading_at}
use Rattle.local_clock.proofs.Exported.{reading_is, rises, with_offset}
use Rattle.master_script.specs.Words.{Words, delay_at, offset_at}
use Rattle.osc_clock.specs.Ticks.{ticks}
use Rattle.osc_clock.proofs.Exported.{ticks_rise}
use Rattle.run_counts.proofs.Exported.{Drifted, ran_drifted}
use Rattle.run_of_file.specs.Commissioned.{IsCommissioned, words_after}
use Rattle.run_of_file.specs.MasterOfFile.{master_of}
use Rattle.run_of_file.specs.RunOfFile.{RunEnd, commissioned, ran}
use Rattle.segment_file.specs.Legal.{IsLegal}
use Rattle.segment_file.specs.Segment.{RowValue, SegmentValue, clock_at, oscillator, row_at, tree_rows}
use Rattle.segment_file.proofs.Exported.{legal_reference}
use Rattle.segment_start.specs.Start.{started_segment}
use Rattle.wrap_time.specs.WordLess.{word_less}

some_same : {X : Type 0} {x y : X} → Some x ≡ Some y → x ≡ y
some_same e = cc

said : (P : Timing → Type 0) (o : Option Timing) (m : Timing) → o ≡ Some m → IfSome o P → P m
said P o m e h = subst (λ (x : Option Timing). IfSome x P) e h

all_joined : (P : Happening → Type 0) (es fs : List Happening) → AllByRecursion P es → AllByRecursion P fs → AllByRecursion P (es ++ fs)
all_joined P [] fs a b = b
all_joined P (e ∷ es) fs a b = (a.0, all_joined P es fs a.1 b)

order_front : (x : ℕ) (es fs : List Happening) → AreInOrder x (es ++ fs) → AreInOrder x es
order_front x [] fs order = tt
order_front x (e ∷ es) fs order = (order.0, order_front e.instant es fs order.1)

-- a frame with a greater number is sent later
later_sent : (a b period : ℕ) → 0 < period → a < b → a * period + 1 ≤ b * period
later_sent a b period some less =
    let more = mul-le-mul_right period (let h : a + 1 ≤ b = omega (arith, less) in h) in
    let parts = add-mul a 1 period in
    omega (arith, more, parts, some)

-- the reference of a legal file
pub the_reference : (s : SegmentValue) (legal : IsLegal s) → IsReference s (position_of (tree_rows s.rows) (legal_reference s legal).0)
the_reference s legal = record { row = (legal_reference s legal).0; found = (legal_reference s legal).1; position = refl }

module _ (s : SegmentValue) (legal : IsLegal s) (first : RunEnd) (was : commissioned s ≡ Some first) (ok : first.answer ≡ Ok tt) where
  abbrev words : Words
  words = words_after s first

  -- the reference that the master was told
  pub told_reference : (r : ℕ) → IsReference s r → words.reference ≡ Some r
  told_reference r reference =
      let row : (legal_reference s legal).0 ≡ reference.row = some_same (sym (legal_reference s legal).1 ∙ reference.found) in
      (late s legal first was ok).knows.reference ∙ ap (λ (q : ℕ). Some q) (ap (position_of (tree_rows s.rows)) row ∙ sym reference.position)

  module _ (p : ℕ) (low : p < length s.rows) (is : has_clock (kind_at s p) ≡ true) where
    abbrev latch : ℕ
    latch = latch_arrival s (words_after s first) p

    abbrev row : RowValue
    row = row_there s p

    abbrev bits : ℕ
    bits = width (kind_at s p)

    abbrev clock : Clock
    clock = clock_of (row_there s p)

    abbrev of_first : List Happening
    of_first = history_from (started_segment s) first.exchanges p

    -- what a drift frame brings comes after that Latch
    module _ (k : ℕ) (t : SegmentState) (e : Exchange) (f : IsDriftFrame s (k + 1) t e) where
      file : IsOfFile s t
      file = (stands_behind s legal k t (found_behind s legal k t e f)).file

      -- what it brings is brought when it arrives
      pub brings_then : (P : ℕ → Type 0) → P (sent_at s f.first (k + 1) + arrive (tree_rows s.rows) (row_at s p)) → AllByRecursion (λ (h : Happening). P h.instant) (brought_to t e p (slice_get t.slaves p))
      brings_then P here =
          let many = file.many in
          let r = position_of (tree_rows s.rows) (legal_reference s legal).0 in
          let reference = the_reference s legal in
          let below = reference_low s legal r reference in
          let v = had_before t.slaves p (omega (arith, many, low)) in
          let w = had_before t.slaves r (omega (arith, many, below)) in
          subst (AllByRecursion (λ (h : Happening). P h.instant))
          (sym (ap (brought_to t e p) v.is ∙ frame_brings s legal (k + 1) t e f r reference w.slave w.is p v.slave v.is)) (by v.slave v.is w.slave (receives s r (k + 1) p))
        where
          by : (v : Slave) → slice_get t.slaves p ≡ Some v → (w : Slave) (b : Bool)
              → AllByRecursion (λ (h : Happening). P h.instant) (if b then receipt (sent_at s f.first (k + 1)) v w ∷ [] else [])
          by v there w true = (subst (λ (n : ℕ). P (sent_at s f.first (k + 1) + n)) (sym (arrives_there s legal p v (file.fixed p v there))) here, tt)
          by v there w false = tt

      frame_late : latch + 1 ≤ sent_at s f.first (k + 1) + arrive (tree_rows s.rows) (row_at s p)
      frame_late =
          let same : f.first ≡ first = some_same (sym f.commissioned ∙ was) in
          let many = ap (λ (r : RunEnd). length r.exchanges) same in
          let early = latched_within (master_of s) first.exchanges in
          let short = legal.head.frame_ns.0 in
          let sent = later_sent words.latched (length f.first.exchanges + (k + 1)) (period_fs s.head.frame_ns) (omega (arith, short)) (omega (arith, early, many)) in
          omega (arith, sent)

      pub receipt_late : (v : Slave) → slice_get t.slaves p ≡ Some v → latch + 1 ≤ sent_at s f.first (k + 1) + v.visits.arrive
      receipt_late v there = let arrives = arrives_there s legal p v (file.fixed p v there) in let late = frame_late in omega (arith, late, arrives)

    -- the history behind drift frames: that of commissioning, and what comes after that Latch
    pub record IsSplit (events : List Happening) : Type 0 where
      pub later : List Happening
      pub are : events ≡ of_first ++ later
      pub late : AllByRecursion (λ (h : Happening). latch + 1 ≤ h.instant) later

    splits : (k : ℕ) (t : SegmentState) (e : Exchange) (events : List Happening) → IsBehind s k t → IsDriftFrame s (k + 1) t e → IsSplit events
        → IsSplit (events ++ brought_to t e p (slice_get t.slaves p))
    splits k t e events b f h =
        let more = brought_to t e p (slice_get t.slaves p) in
        record {
          later = h.later ++ more;
          are = ap (λ (hs : List Happening). hs ++ more) h.are ∙ append_assoc of_first h.later more;
          late = all_joined (λ (x : Happening). latch + 1 ≤ x.instant) h.later more h.late (brings_then k t e f (λ (n : ℕ). latch + 1 ≤ n) (frame_late k t e f));
        }

    pub split_behind : (k : ℕ) (t : SegmentState) (b : IsBehind s k t) → IsSplit (history_from (started_segment s) (b.first.exchanges ++ b.before) p)
    split_behind k t b =
        history_induction s legal p first was (λ (k : ℕ) (t : SegmentState) (events : List Happening). IsSplit events)
        (record { later = []; are = sym (append-nil of_first); late = tt }) splits k t b

    module _ (k : ℕ) (u : SegmentState) (b : IsBehind s k u) where
      abbrev events : List Happening
      events = history_from (started_segment s) (b.first.exchanges ++ b.before) p

      file_behind : IsOfFile s u
      file_behind = (stands_behind s legal k u b).file

      pub ordered : AreInOrder 0 events
      ordered =
          let many = file_behind.many in
          let v = had_before u.slaves p (omega (arith, many, low)) in
          let has = has_there s legal p v.slave (file_behind.fixed p v.slave v.is) (clock_measures (kind_at s p) is) in
          (said (λ (m : Timing). IsOf bits clock events m.clock.instant (record { registers = v.slave.registers; timing = m })) v.slave.timing has.timing has.is
          (has_behind s legal k p u v.slave b low is v.is)).order

      -- at that Latch it has counted 10 ns a tick
      pub time_at_latch : local_time clock events latch ≡ row.start + 10 * ticks (oscillator row) latch
      time_at_latch =
          let h = split_behind k u b in
          let order = subst (AreInOrder 0) h.are ordered in
          ap (λ (hs : List Happening). local_time clock hs latch) h.are
          ∙ ap (λ (c : Clock). c.reading) (whole_not_yet latch clock of_first h.later (order_later 0 (latch + 1) of_first h.later order h.late))
          ∙ whole_rests row.start (oscillator row) (running s legal p low is) latch clock of_first refl refl refl refl (order_front 0 of_first h.later order) (first_resets s legal p first was)

      shown_then : reading_at bits clock events latch ≡ shown_at row latch
      shown_then = reading_is bits latch clock events ∙ ap (λ (n : ℕ). n % 2 ^ bits) time_at_latch

      pub time_rises : (t : ℕ) → latch ≤ t → local_time clock events latch ≤ local_time clock events t
      time_rises t after =
          let rise = ticks_rise (oscillator row) latch t (running s legal p low is) after in
          let r = (rises latch t (ticks (oscillator row) t - ticks (oscillator row) latch) clock events (running s legal p low is) (omega arith) after ordered (omega (arith, rise))).0 in
          omega (arith, r)

      same_words : b.first ≡ first
      same_words = some_same (sym b.commissioned ∙ was)

      offset_is : offset_of u p ≡ word_less bits (s.head.epoch_ns + delay_at (master_of s) words p) (shown_at row latch)
      offset_is =
          let many = file_behind.many in
          let v = had_before u.slaves p (omega (arith, many, low)) in
          let clocked : clock_at s.rows (row_at s p) ≡ true = sym (row_has has_clock s legal p low) ∙ is in
          ap (λ (o : Option Slave). option_map_or (λ (x : Slave). offset x.registers) o 0) v.is
          ∙ ((stands_behind s legal k u b).set.clocks p v.slave v.is clocked).offset_is
          ∙ ap (λ (r : RunEnd). offset_at (master_of s) (words_after s r) p) same_words
          ∙ offset_by_reading s first legal was ok p low clocked

      -- the word of the copy
      pub copy_behind : (t : ℕ) → latch ≤ t → copy_at bits clock events (offset_of u p) t ≡ whole_copy s words p events t % 2 ^ bits
      copy_behind t after =
          let n = s.head.epoch_ns + delay_at (master_of s) words p in
          let gone = local_time clock events t - local_time clock events latch in
          let turned : n + gone ≡ s.head.epoch_ns + gone + delay_at (master_of s) words p = omega arith in
          ap (λ (x : ℕ). (reading_at bits clock events t + x) % 2 ^ bits) (offset_is ∙ ap (word_less bits n) (sym shown_then))
          ∙ with_offset bits n latch t clock events (time_rises t after)
          ∙ ap (λ (x : ℕ). x % 2 ^ bits) turned

  -- the reference receives nothing
  module _ (r : ℕ) (reference : IsReference s r) where
    not_received : (k : ℕ) → receives s r k r ≡ false
    not_received k = let own = eq-eqb r r refl in let is = reference_clock s legal r reference in rw (is, own) refl

    brings_none : (k : ℕ) (t : SegmentState) (e : Exchange) → IsDriftFrame s (k + 1) t e → brought_to t e r (slice_get t.slaves r) ≡ []
    brings_none k t e f =
        let many = (stands_behind s legal k t (found_behind s legal k t e f)).file.many in
        let below = reference_low s legal r reference in
        let v = had_before t.slaves r (omega (arith, many, below)) in
        ap (brought_to t e r) v.is ∙ frame_brings s legal (k + 1) t e f r reference v.slave v.is r v.slave v.is
        ∙ ap (λ (b : Bool). if b then receipt (sent_at s f.first (k + 1)) v.slave v.slave ∷ [] else []) (not_received (k + 1))

    pub reference_history : (k : ℕ) (u : SegmentState) (b : IsBehind s k u) → history_from (started_segment s) (b.first.exchanges ++ b.before) r ≡ history_from (started_segment s) first.exchanges r
    reference_history k u b =
        history_induction s legal r first was (λ (k : ℕ) (t : SegmentState) (events : List Happening). events ≡ history_from (started_segment s) first.exchanges r) refl
        (λ k t e events b f h. ap (λ (hs : List Happening). events ++ hs) (brings_none k t e f) ∙ append-nil events ∙ h) k u b

    -- and goes on by 10 ns a tick
    pub reference_counts : (k : ℕ) (u : SegmentState) (b : IsBehind s k u) (t : ℕ)
        → local_time (clock_of (row_there s r)) (history_from (started_segment s) (b.first.exchanges ++ b.before) r) t ≡ (row_there s r).start + 10 * ticks (oscillator (row_there s r)) t
    reference_counts k u b t =
        let low = reference_low s legal r reference in
        let is = reference_clock s legal r reference in
        let same = reference_history k u b in
        ap (λ (hs : List Happening). local_time (clock_of (row_there s r)) hs t) same
        ∙ whole_rests (row_there s r).start (oscillator (row_there s r)) (running s legal r low is) t (clock_of (row_there s r)) (history_from (started_segment s) first.exchanges r) refl refl refl refl
        (subst (AreInOrder 0) same (ordered r low is k u b)) (first_resets s legal r first was)

    pub reference_behind : (k : ℕ) (u : SegmentState) (b : IsBehind s k u) (t : ℕ)
        → whole_copy s words r (history_from (started_segment s) (b.first.exchanges ++ b.before) r) t ≡ reference_time s words r t
    reference_behind k u b t =
        let now = reference_counts k u b t in
        let before = reference_counts k u b (latch_arrival s words r) in
        let none = reference_delay s first legal was ok r (told_reference r reference) in
        omega (arith, now, before, none)

-- the whole run
module _ (s : SegmentValue) (first run : RunEnd) (it : IsCommissioned s first) (is : ran s ≡ Some run) where
  abbrev pub drifted : Drifted s first run
  drifted = ran_drifted s it.legal first run it.is is

  abbrev pub whole : IsBehind s (length drifted.more) run.state
  whole = record {
    first = first;
    run = run;
    commissioned = it.is;
    ok = it.ok;
    ran = is;
    before = drifted.more;
    rest = [];
    all = drifted.all ∙ ap (λ (es : List Exchange). first.exchanges ++ es) (sym (append-nil drifted.more));
    number = refl;
    led = drifted.runs;
  }

  pub copy_then : (p t : ℕ) → p < length s.rows → has_clock (kind_at s p) ≡ true → latch_arrival s (words_after s first) p ≤ t
      → copy_of_run s run p t ≡ whole_copy s (words_after s first) p (history_from (started_segment s) run.exchanges p) t % 2 ^ width (kind_at s p)
  copy_then p t low clock after =
      subst (λ (es : List Exchange). copy_at (width (kind_at s p)) (clock_of (row_there s p)) (history_from (started_segment s) es p) (offset_of run.state p) t
      ≡ whole_copy s (words_after s first) p (history_from (started_segment s) es p) t % 2 ^ width (kind_at s p)) (sym drifted.all)
      (copy_behind s it.legal first it.is it.ok p low clock (length drifted.more) run.state whole t after)

  pub reference_then : (r t : ℕ) → IsReference s r → whole_copy s (words_after s first) r (history_from (started_segment s) run.exchanges r) t ≡ reference_time s (words_after s first) r t
  reference_then r t reference =
      subst (λ (es : List Exchange). whole_copy s (words_after s first) r (history_from (started_segment s) es r) t ≡ reference_time s (words_after s first) r t) (sym drifted.all)
      (reference_behind s it.legal first it.is it.ok r reference (length drifted.more) run.state whole t)
