-- The clocks of a run by their histories, from the start of the file on.
use Rattle.std.proofs.Common.{◌≡◌, ℕ, ◌+◌, ◌^◌, ◌<◌, ◌≤◌, Bool, true, false, List, [], ◌∷◌, ◌++◌, length, Option, Some, inl, inr, refl, sym, ap, subst, ◌∙◌, append_assoc, arith}
use Rattle.std.specs.Prelude.{if◌then◌else◌, nat_lt, slice_get}
use Rattle.std.proofs.lemmas.Bool.{cases_lt}
use Rattle.std.proofs.lemmas.Bool.Decides.{nat_tests}
use Rattle.std.proofs.lemmas.List.{append-nil}
use Rattle.std.proofs.lemmas.List.Elements.{All-get_or}
use Rattle.copy_law.specs.Drifting.{IsBehind}
use Rattle.copy_law.specs.History.{brought_to, clock_of, history_from}
use Rattle.copy_law.proofs.Readings.{clock_measures}
use Rattle.copy_law.proofs.Standing.{from_start, scripted}
use Rattle.delay_law.specs.Resting.{row_there}
use Rattle.delay_law.proofs.Exported.{keeps_there}
use Rattle.ecat_link.specs.Exchanges.{Exchange, Runs}
use Rattle.esc_regs.specs.Kinds.{greatest_start, has_clock}
use Rattle.esc_regs.specs.declared.clock_kind.ClockKind.{ClockKind}
use Rattle.esc_regs.specs.declared.clock_kind.ClockKind.TheVariants as kind
use Rattle.frame_pass.specs.ClockHistory.{HasHistory, events_passed}
use Rattle.frame_pass.specs.FramePass.{datagrams_behind, end_of, slave_passed}
use Rattle.frame_pass.specs.Reach.{reach_of}
use Rattle.frame_pass.specs.SegmentState.{SegmentState, leaves_at, segment_step}
use Rattle.frame_pass.specs.SlaveState.{Slave, Timing, width}
use Rattle.frame_pass.proofs.Exported.{of_passed, of_start, step_reached, step_sent, step_stays}
use Rattle.honest_slaves.specs.FileSlaves.{kind_at}
use Rattle.honest_slaves.proofs.Exported.{had_before, low_where, same_many}
use Rattle.local_clock.specs.Reading.{Clock, Happening}
use Rattle.osc_clock.specs.Ticks.{IsRunning}
use Rattle.run_counts.proofs.Exported.{few_sent}
use Rattle.segment_file.specs.Legal.{IsClock, IsLegal}
use Rattle.segment_file.specs.Segment.{RowValue, SegmentValue, no_row, oscillator, row_at}
use Rattle.segment_file.proofs.Exported.{row_within}
use Rattle.segment_start.specs.Start.{registers_of, slave_of, started_segment, timing_by}
use Rattle.segment_start.proofs.Exported.{stands_at}

some_same : {X : Type 0} {x y : X} → Some x ≡ Some y → x ≡ y
some_same e = cc

-- a start that the kind allows is a word of the clock's width
start_fits : (k : ClockKind) (x : ℕ) → x ≤ greatest_start k → x < 2 ^ width k
unfolding width
start_fits kind.None x h = omega (arith, h)
start_fits kind.R32 x h = omega (arith, h)
start_fits kind.C32 x h = omega (arith, h)
start_fits kind.C64 x h = omega (arith, h)

record HasClock (row : RowValue) (o : Option Timing) : Type 0 where
  timing : Timing
  is : o ≡ Some timing
  clock : timing.clock ≡ clock_of row

clock_by : (k : ClockKind) (cycles : ℕ) (row : RowValue) → has_clock k ≡ true → HasClock row (timing_by k cycles row)
clock_by kind.None cycles row is = absurd (let z = is in cc)
clock_by kind.R32 cycles row is = absurd (let z = is in cc)
clock_by kind.C32 cycles row is = record { timing = _; is = refl; clock = refl }
clock_by kind.C64 cycles row is = record { timing = _; is = refl; clock = refl }

-- exchanges, and then more
pub history_then : (es fs : List Exchange) (t u : SegmentState) (p : ℕ) → Runs segment_step (Some t) es (Some u) → history_from t (es ++ fs) p ≡ history_from t es p ++ history_from u fs p
unfolding history_from
history_then [] fs t u p runs = ap (λ (x : SegmentState). history_from x fs p) (sym (some_same runs))
history_then (e ∷ es) fs t u p runs =
    let next = (segment_step t e.wait_ns e.sent).0 in
    ap (λ (hs : List Happening). brought_to t e p (slice_get t.slaves p) ++ hs) (history_then es fs next u p runs.1)
    ∙ sym (append_assoc (brought_to t e p (slice_get t.slaves p)) (history_from next es p) (history_from u fs p))

-- one exchange
pub history_one : (t : SegmentState) (e : Exchange) (p : ℕ) → history_from t (e ∷ []) p ≡ brought_to t e p (slice_get t.slaves p)
unfolding history_from
history_one t e p = append-nil (brought_to t e p (slice_get t.slaves p))

module _ (s : SegmentValue) (legal : IsLegal s) (p : ℕ) (low : p < length s.rows) (is : has_clock (kind_at s p) ≡ true) where
  abbrev pub clock : Clock
  clock = clock_of (row_there s p)

  abbrev pub Has : List Happening → Slave → Type 0
  Has events v = HasHistory (width (kind_at s p)) (clock_of (row_there s p)) events v

  pub running : IsRunning (oscillator (row_there s p))
  running = (keeps_there s legal p low (clock_measures (kind_at s p) is)).0

  -- before the first frame
  has_first : (v : Slave) → slice_get (started_segment s).slaves p ≡ Some v → Has [] v
  unfolding slave_of registers_of
  has_first v there =
      let same : slave_of s (row_at s p) ≡ v = some_same (sym (stands_at s p legal low) ∙ there) in
      let c = clock_by (kind_at s p) s.head.cycles (row_there s p) is in
      let legal_row : IsClock s.head.cycle_ns (row_there s p) = All-get_or (IsClock s.head.cycle_ns) s.rows (row_at s p) no_row (row_within s legal p low) legal.clocks in
      subst (λ (x : Slave). Has [] x) same
      (subst (λ (k : Clock). HasHistory (width (kind_at s p)) k [] (slave_of s (row_at s p))) c.clock
      (of_start (width (kind_at s p)) (slave_of s (row_at s p)) c.timing c.is refl
      (subst (λ (k : Clock). k.reading < 2 ^ width (kind_at s p)) (sym c.clock) (start_fits (kind_at s p) (row_there s p).start legal_row.start))))

  -- one sending
  module _ (t : SegmentState) (e : Exchange) (early : t.sent < 1000000) (events : List Happening) where
    abbrev sent : ℕ
    sent = leaves_at t e.wait_ns

    passed : (v w : Slave) → slice_get t.slaves p ≡ Some v → p < reach_of t e.sent → slice_get (segment_step t e.wait_ns e.sent).0.slaves p ≡ Some w → Has events v
        → Has (events ++ brought_to t e p (slice_get t.slaves p)) w
    passed v w there reached after h =
        let ds = datagrams_behind p sent t.slaves e.sent.datagrams in
        let end = end_of (reach_of t e.sent) t.slaves in
        let so : slave_passed sent end v ds ≡ w = some_same (sym (step_reached t e.wait_ns e.sent p v early reached there) ∙ after) in
        let comes : nat_lt p (reach_of t e.sent) ≡ true = grind (arith, nat_tests, reached) in
        let brings : brought_to t e p (slice_get t.slaves p) ≡ events_passed sent v ds =
        ap (brought_to t e p) there ∙ ap (λ (b : Bool). if b then events_passed sent v ds else []) comes in
        subst (λ (hs : List Happening). Has (events ++ hs) w) (sym brings)
        (subst (λ (x : Slave). Has (events ++ events_passed sent v ds) x) so (of_passed (width (kind_at s p)) clock events sent end v ds running h))

    beyond : (v w : Slave) → slice_get t.slaves p ≡ Some v → reach_of t e.sent ≤ p → slice_get (segment_step t e.wait_ns e.sent).0.slaves p ≡ Some w → Has events v
        → Has (events ++ brought_to t e p (slice_get t.slaves p)) w
    beyond v w there past after h =
        let ds = datagrams_behind p sent t.slaves e.sent.datagrams in
        let so : v ≡ w = some_same (sym there ∙ sym (step_stays t e.wait_ns e.sent p early past) ∙ after) in
        let comes : nat_lt p (reach_of t e.sent) ≡ false = grind (arith, nat_tests, past) in
        let brings : brought_to t e p (slice_get t.slaves p) ≡ [] =
        ap (brought_to t e p) there ∙ ap (λ (b : Bool). if b then events_passed sent v ds else []) comes in
        subst (λ (hs : List Happening). Has (events ++ hs) w) (sym brings)
        (subst (λ (hs : List Happening). Has hs w) (sym (append-nil events)) (subst (λ (x : Slave). Has events x) so h))

    has_step : ((v : Slave) → slice_get t.slaves p ≡ Some v → Has events v) → (w : Slave) → slice_get (segment_step t e.wait_ns e.sent).0.slaves p ≡ Some w
        → Has (events ++ brought_to t e p (slice_get t.slaves p)) w
    has_step has w after =
        let many = same_many t e.wait_ns e.sent in
        let within = low_where (segment_step t e.wait_ns e.sent).0.slaves p w after in
        let v = had_before t.slaves p (omega (arith, many, within)) in
        elim (cases_lt p (reach_of t e.sent)) [
          | inl reached ↦ passed v.slave w v.is reached after (has v.slave v.is)
          | inr past ↦ beyond v.slave w v.is past after (has v.slave v.is)
        ]

  -- sendings, one after another
  has_run : (es : List Exchange) (t u : SegmentState) (events : List Happening) → t.sent + length es ≤ 1000000 → Runs segment_step (Some t) es (Some u)
      → ((v : Slave) → slice_get t.slaves p ≡ Some v → Has events v) → (w : Slave) → slice_get u.slaves p ≡ Some w → Has (events ++ history_from t es p) w
  unfolding history_from
  has_run [] t u events few runs has w after =
      subst (λ (hs : List Happening). Has hs w) (sym (append-nil events)) (has w (ap (λ (x : SegmentState). slice_get x.slaves p) (sym (some_same runs)) ∙ after))
  has_run (e ∷ es) t u events few runs has w after =
      let next = (segment_step t e.wait_ns e.sent).0 in
      let early : t.sent < 1000000 = omega (arith, few) in
      let sent = (step_sent t e.wait_ns e.sent early).sent in
      subst (λ (hs : List Happening). Has hs w) (append_assoc events (brought_to t e p (slice_get t.slaves p)) (history_from next es p))
      (has_run es next u (events ++ brought_to t e p (slice_get t.slaves p)) (omega (arith, few, sent)) runs.1 (has_step t e early events has) w after)

  none_sent : (started_segment s).sent ≡ 0
  unfolding started_segment
  none_sent = refl

  -- from the start on
  pub has_there : (es : List Exchange) (u : SegmentState) → length es ≤ 1000000 → Runs segment_step (Some (started_segment s)) es (Some u) → (w : Slave) → slice_get u.slaves p ≡ Some w
      → Has (history_from (started_segment s) es p) w
  has_there es u few runs w after =
      let none = none_sent in
      has_run es (started_segment s) u [] (omega (arith, none, few)) runs has_first w after

-- behind drift frames
pub has_behind : (s : SegmentValue) (legal : IsLegal s) (k p : ℕ) (t : SegmentState) (v : Slave) (b : IsBehind s k t) → p < length s.rows → has_clock (kind_at s p) ≡ true → slice_get t.slaves p ≡ Some v
    → HasHistory (width (kind_at s p)) (clock_of (row_there s p)) (history_from (started_segment s) (b.first.exchanges ++ b.before) p) v
has_behind s legal k p t v b low is there =
    let few = few_sent s legal (b.first.exchanges ++ b.before) (scripted s legal k t b) in
    has_there s legal p low is (b.first.exchanges ++ b.before) t (omega (arith, few)) (from_start s legal k t b) v there
