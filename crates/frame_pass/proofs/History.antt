-- The told clock is that of its history.
use Rattle.std.proofs.Common.{◌≡◌, ℕ, ◌+◌, ◌^◌, ◌<◌, ◌≤◌, List, [], ◌∷◌, ◌++◌, length, Option, Some, None, Bool, true, false, nat_le, refl, sym, ap, subst, ◌∙◌, arith, append_assoc}
use Rattle.std.specs.Prelude.{IfSome}
use Rattle.std.specs.List.{All}
use Rattle.std.proofs.lemmas.Bool.Decides.{nat_tests}
use Rattle.std.proofs.lemmas.List.{append-nil}
use Rattle.std.proofs.lemmas.List.Elements.{All-append, All-cons, All-head, All-nil, All-tail}
use Rattle.ecat_frame.specs.FrameGrammar.{DatagramValue}
use Rattle.osc_clock.specs.Ticks.{IsRunning}
use Rattle.local_clock.specs.Reading.{Clock, Happening, Event, received, reset, after_event, advanced, clock_at, AreInOrder, AreUntil, IsPossible}
use Rattle.local_clock.proofs.Exported.{in_turn, at_once, stands, advanced_here}
use Rattle.esc_regs.specs.declared.answers.Written.{Written}
use Rattle.esc_regs.specs.RegisterFile.{Registers}
use Rattle.esc_regs.specs.RegisterWrite.{written, told}
use Rattle.esc_regs.proofs.Exported.{written_kind, rate_bounds}
use Rattle.esc_regs.specs.RegisterAccess.{is_refused, rate_by}
use Rattle.esc_regs.specs.declared.clock_kind.ClockKind.{ClockKind}
use Rattle.frame_pass.specs.SlaveState.{Timing, Measuring, Slave, width, width_of, offset, on_measuring_of}
use Rattle.latch_unit.specs.Stamp.{stamp_by}
use Rattle.frame_pass.specs.Advancing.{advanced_to, measuring_at, ticked_to, stamped}
use Rattle.frame_pass.specs.WriteEffects.{latched, compared, reset_by, activated, affected, wrote, difference, arms}
use Rattle.frame_pass.specs.DatagramTable.{writes}
use Rattle.frame_pass.specs.DatagramAtSlave.{doing, slave_after}
use Rattle.frame_pass.specs.FramePass.{slave_behind, port_latched, port_taken, ports_taken, comes_by, at_arrival, when_latching, are_latching, slave_passed}
use Rattle.frame_pass.specs.ClockHistory.{received_of, reset_of, events_told, events_on, events_wrote, events_by, events_in, events_passed, IsOf, HasHistory}

until_later : (p t : ℕ) (es : List Happening) → p ≤ t → AreUntil p es → AreUntil t es
until_later p t [] late past = All-nil _
until_later p t (h ∷ es) late past =
    let at : h.instant ≤ p = All-head (λ (e : Happening). e.instant ≤ p) h es past in
    All-cons (λ (e : Happening). e.instant ≤ t) h es (omega (arith, at, late)) (until_later p t es late (All-tail (λ (e : Happening). e.instant ≤ p) h es past))

until_more : (p : ℕ) (es : List Happening) (e : Event) → AreUntil p es → AreUntil p (es ++ record { instant = p; event = e } ∷ [])
until_more p es e past =
    All-append (λ (h : Happening). h.instant ≤ p) es (record { instant = p; event = e } ∷ []) past
    (All-cons (λ (h : Happening). h.instant ≤ p) (record { instant = p; event = e }) [] (omega arith) (All-nil _))

order_more : (s : ℕ) (es : List Happening) (h : Happening) → s ≤ h.instant → AreInOrder s es → AreUntil h.instant es → AreInOrder s (es ++ h ∷ [])
order_more s [] h from order past = (from, tt)
order_more s (e ∷ es) h from order past =
    (order.0, order_more e.instant es h (All-head (λ (x : Happening). x.instant ≤ h.instant) e es past) order.1 (All-tail (λ (x : Happening). x.instant ≤ h.instant) e es past))

possible_more : (es : List Happening) (h : Happening) → IsPossible h.event → All (λ (x : Happening). IsPossible x.event) es → All (λ (x : Happening). IsPossible x.event) (es ++ h ∷ [])
possible_more es h can all =
    All-append (λ (x : Happening). IsPossible x.event) es (h ∷ []) all (All-cons (λ (x : Happening). IsPossible x.event) h [] can (All-nil _))

-- time goes on
on_later : (w : ℕ) (c : Clock) (es : List Happening) (p t : ℕ) → IsRunning c.osc → c.instant ≤ p → p ≤ t → AreUntil p es
    → advanced w t (clock_at w c es p) ≡ clock_at w c es t
on_later w c es p t run early late past = in_turn w p t c es [] run early late past tt ∙ ap (λ hs. clock_at w c hs t) (append-nil es)

stands_at : (w : ℕ) (c : Clock) (es : List Happening) (p : ℕ) (m : Measuring) → IsOf w c es p m → m.timing.clock.instant ≡ p
stands_at w c es p m h = ap (λ x. x.instant) h.clock ∙ (stands w p c es).0

-- so p is the present time
at_present : (w : ℕ) (c : Clock) (es : List Happening) (p : ℕ) (m : Measuring) → IsOf w c es p m → IsOf w c es m.timing.clock.instant m
at_present w c es p m h = subst (λ t. IsOf w c es t m) (sym (stands_at w c es p m h)) h

of_latched : (w : ℕ) (c : Clock) (es : List Happening) (p : ℕ) (b : Bool) (m : Measuring) → IsOf w c es p m → IsOf w c es p (latched b m)
unfolding latched
of_latched w c es p true m h = record { width = h.width; began = h.began; order = h.order; past = h.past; possible = h.possible; clock = h.clock }
of_latched w c es p false m h = h

of_event : (w : ℕ) (c : Clock) (es : List Happening) (p : ℕ) (e : Event) (m n : Measuring) → IsPossible e → IsOf w c es p m → n.registers.kind ≡ m.registers.kind
    → n.timing.clock ≡ after_event e m.timing.clock → IsOf w c (es ++ record { instant = m.timing.clock.instant; event = e } ∷ []) p n
of_event w c es p e m n can h kind clock =
    rw (stands_at w c es p m h) (record {
      width = rw kind h.width;
      began = h.began;
      order = order_more c.instant es (record { instant = p; event = e }) h.began h.order h.past;
      past = until_more p es e h.past;
      possible = possible_more es (record { instant = p; event = e }) can h.possible;
      clock = clock ∙ ap (after_event e) h.clock ∙ sym (at_once w c es (record { instant = p; event = e }) h.past);
    })

of_compared : (w : ℕ) (c : Clock) (es : List Happening) (p : ℕ) (o : Option ℕ) (m : Measuring) → IsOf w c es p m → IsOf w c (es ++ received_of o m) p (compared o m)
unfolding compared
of_compared w c es p None m h = rw (append-nil es) h
of_compared w c es p (Some x) m h = of_event w c es p (received (difference m x)) m (compared (Some x) m) tt h refl refl

of_reset : (w : ℕ) (c : Clock) (es : List Happening) (p : ℕ) (o : Option ℕ) (m : Measuring) → IfSome o (λ rate. 1 ≤ rate) → IsOf w c es p m
    → IsOf w c (es ++ reset_of o m) p (reset_by o m)
unfolding reset_by
of_reset w c es p None m can h = rw (append-nil es) h
of_reset w c es p (Some rate) m can h = of_event w c es p (reset rate) m (reset_by (Some rate) m) can h refl refl

of_activated : (w : ℕ) (c : Clock) (es : List Happening) (p : ℕ) (o : Option ℕ) (m : Measuring) → IsOf w c es p m → IsOf w c es p (activated o m)
unfolding activated
of_activated w c es p None m h = h
of_activated w c es p (Some byte) m h = by (arms byte m.registers) refl
  where
    by : (b : Bool) → arms byte m.registers ≡ b → IsOf w c es p (activated (Some byte) m)
    by true e = rw e (record { width = h.width; began = h.began; order = h.order; past = h.past; possible = h.possible; clock = h.clock })
    by false e = rw e (record { width = h.width; began = h.began; order = h.order; past = h.past; possible = h.possible; clock = h.clock })

-- a reset is at the same instant, whatever was received before
same_reset : (o : Option ℕ) (m n : Measuring) → n.timing.clock.instant ≡ m.timing.clock.instant → reset_of o n ≡ reset_of o m
same_reset None m n e = refl
same_reset (Some rate) m n e = ap (λ t. record { instant = t; event = reset rate } ∷ []) e

of_affected : (w : ℕ) (c : Clock) (es : List Happening) (p : ℕ) (tells : Written) (m : Measuring) → IfSome tells.rate (λ rate. 1 ≤ rate) → IsOf w c es p m
    → IsOf w c (es ++ events_told tells m) p (affected tells m)
of_affected w c es p tells m can h =
    let l = latched tells.latched m in
    let r = received_of tells.received l in
    let q = compared tells.received l in
    let a = of_latched w c es p tells.latched m h in
    let b = of_compared w c es p tells.received l a in
    let d = of_reset w c (es ++ r) p tells.rate q can b in
    let same : reset_of tells.rate q ≡ reset_of tells.rate m = same_reset tells.rate m q (stands_at w c (es ++ r) p q b ∙ sym (stands_at w c es p m h)) in
    let list : (es ++ r) ++ reset_of tells.rate q ≡ es ++ (r ++ reset_of tells.rate m) = append_assoc es r _ ∙ ap (λ xs. es ++ (r ++ xs)) same in
    of_activated w c (es ++ (r ++ reset_of tells.rate m)) p tells.activation (reset_by tells.rate q) (rw list at d)

pub kind_of_stamped : (o : Option ℕ) (r : Registers) → (stamped o r).kind ≡ r.kind
kind_of_stamped None r = refl
kind_of_stamped (Some x) r = refl

-- what time does to a measuring slave keeps its history
of_time : (w : ℕ) (c : Clock) (es : List Happening) (t : ℕ) (m : Measuring) → IsRunning c.osc
    → IsOf w c es m.timing.clock.instant m → IsOf w c es (measuring_at t m).timing.clock.instant (measuring_at t m)
unfolding measuring_at ticked_to
of_time w c es t m run h = by (nat_le m.timing.clock.instant t) refl
  where
    by : (b : Bool) → nat_le m.timing.clock.instant t ≡ b → IsOf w c es (measuring_at t m).timing.clock.instant (measuring_at t m)
    by true e =
        let late : m.timing.clock.instant ≤ t = grind (arith, nat_tests, e) in
        rw e (record {
          width = ap width (kind_of_stamped (stamp_by (width_of m) m.timing.clock (offset m.registers) t m.timing.event) m.registers) ∙ h.width;
          began = let b = h.began in omega (arith, b, late);
          order = h.order;
          past = until_later m.timing.clock.instant t es late h.past;
          possible = h.possible;
          clock = rw h.width (ap (advanced w t) h.clock ∙ on_later w c es m.timing.clock.instant t run h.began late h.past);
        })
    by false e = rw e h

-- what keeps the history of a measuring slave keeps that of the slave
on_slave : (w : ℕ) (c : Clock) (es : List Happening) (f : Measuring → Measuring) (s : Slave) (o : Option Timing) → s.timing ≡ o
    → ((m : Measuring) → IsOf w c es m.timing.clock.instant m → IsOf w c es (f m).timing.clock.instant (f m)) → HasHistory w c es s → HasHistory w c es (on_measuring_of f s o)
on_slave w c es f s None e keep h = h
on_slave w c es f s (Some t) e keep h =
    let now : IsOf w c es t.clock.instant (record { registers = s.registers; timing = t }) = (rw e at h) in
    keep (record { registers = s.registers; timing = t }) now

wrote_of : (w : ℕ) (c : Clock) (es : List Happening) (tells : Written) (r : Registers) (s : Slave) (o : Option Timing) → s.timing ≡ o → r.kind ≡ s.registers.kind → IfSome tells.rate (λ rate. 1 ≤ rate) → HasHistory w c es s
    → HasHistory w c (es ++ events_on tells r o) (on_measuring_of (affected tells) (record s { registers = r }) o)
wrote_of w c es tells r s None e kind can h = rw e tt
wrote_of w c es tells r s (Some t) e kind can h =
    let now : IsOf w c es t.clock.instant (record { registers = s.registers; timing = t }) = (rw e at h) in
    let m : Measuring = record { registers = r; timing = t } in
    let k = of_affected w c es t.clock.instant tells m can
    (record { width = rw kind now.width; began = now.began; order = now.order; past = now.past; possible = now.possible; clock = now.clock }) in
    at_present w c (es ++ events_told tells m) t.clock.instant (affected tells m) k

-- a rate that a write tells leaves a tick or more to a correction
rate_possible : (k : ClockKind) (addr : ℕ) (bytes : List ℕ) → IfSome (told k addr bytes).rate (λ rate. 1 ≤ rate)
rate_possible k addr bytes = by (is_refused k addr (length bytes)) refl
  where
    least : (o : Option ℕ) → IfSome o (λ g. (2 ≤ g) × (g ≤ 255)) → IfSome o (λ rate. 1 ≤ rate)
    least None h = tt
    least (Some g) h = let low = h.0 in omega (arith, low)

    by : (b : Bool) → is_refused k addr (length bytes) ≡ b → IfSome (told k addr bytes).rate (λ rate. 1 ≤ rate)
    by true e = rw e tt
    by false e = rw e (least (rate_by addr bytes) (rate_bounds addr bytes))

of_wrote : (w : ℕ) (c : Clock) (es : List Happening) (addr : ℕ) (bytes : List ℕ) (s : Slave) → HasHistory w c es s → HasHistory w c (es ++ events_wrote addr bytes s) (wrote addr bytes s)
unfolding wrote events_wrote
of_wrote w c es addr bytes s h =
    wrote_of w c es (told s.registers.kind addr bytes) (written s.registers addr bytes) s s.timing refl (written_kind s.registers addr bytes) (rate_possible s.registers.kind addr bytes) h

of_datagram : (w : ℕ) (c : Clock) (es : List Happening) (s : Slave) (d : DatagramValue) → HasHistory w c es s → HasHistory w c (es ++ events_by s d) (slave_after s d)
unfolding events_by slave_after
of_datagram w c es s d h = by (writes (doing s d)) refl
  where
    by : (b : Bool) → writes (doing s d) ≡ b → HasHistory w c (es ++ events_by s d) (slave_after s d)
    by true e = rw e (of_wrote w c es d.head.ado d.payload s h)
    by false e = rw (e, append-nil es) h

of_datagrams : (w : ℕ) (c : Clock) (es : List Happening) (s : Slave) (ds : List DatagramValue) → HasHistory w c es s → HasHistory w c (es ++ events_in s ds) (slave_behind s ds)
unfolding events_in slave_behind
of_datagrams w c es s [] h = rw (append-nil es) h
of_datagrams w c es s (d ∷ ds) h =
    rw (← append_assoc es (events_by s d) (events_in (slave_after s d) ds)) (of_datagrams w c (es ++ events_by s d) (slave_after s d) ds (of_datagram w c es s d h))

pub of_advanced : (w : ℕ) (c : Clock) (es : List Happening) (t : ℕ) (s : Slave) → IsRunning c.osc → HasHistory w c es s → HasHistory w c es (advanced_to t s)
unfolding advanced_to
of_advanced w c es t s run h =
    on_slave w c es (measuring_at t) s s.timing refl (λ m k. of_time w c es t m run k) h

of_port : (w : ℕ) (c : Clock) (es : List Happening) (sent : ℕ) (end : Option ℕ) (addr : ℕ) (o : Option ℕ) (s : Slave) → IsRunning c.osc → HasHistory w c es s
    → HasHistory w c es (port_taken sent end addr o s)
unfolding port_taken
of_port w c es sent end addr None s run h = h
of_port w c es sent end addr (Some at) s run h = by (comes_by end at) refl
  where
    by : (b : Bool) → comes_by end at ≡ b → HasHistory w c es (port_taken sent end addr (Some at) s)
    by true e =
        let a = advanced_to (sent + at) s in
        let k = of_advanced w c es (sent + at) s run h in
        rw e (on_slave w c es (port_latched addr) a a.timing refl (λ m i. record { width = i.width; began = i.began; order = i.order; past = i.past; possible = i.possible; clock = i.clock }) k)
    by false e = rw e h

of_ports : (w : ℕ) (c : Clock) (es : List Happening) (sent : ℕ) (end : Option ℕ) (b : Bool) (s : Slave) → IsRunning c.osc → HasHistory w c es s
    → HasHistory w c es (when_latching b sent end s)
unfolding ports_taken
of_ports w c es sent end false s run h = h
of_ports w c es sent end true s run h =
    of_port w c es sent end 0x0908 s.visits.back2 _ run
    (of_port w c es sent end 0x0904 s.visits.back1 _ run
    (of_port w c es sent end 0x090C s.visits.back3 s run h))

pub of_passed : (w : ℕ) (c : Clock) (es : List Happening) (sent : ℕ) (end : Option ℕ) (s : Slave) (ds : List DatagramValue) → IsRunning c.osc → HasHistory w c es s
    → HasHistory w c (es ++ events_passed sent s ds) (slave_passed sent end s ds)
unfolding slave_passed
of_passed w c es sent end s ds run h =
    let a = at_arrival sent s in
    let k = of_advanced w c es (sent + s.visits.arrive) s run h in
    of_ports w c (es ++ events_in a ds) sent end (are_latching a ds) (slave_behind a ds) run (of_datagrams w c es a ds k)

pub of_start : (w : ℕ) (s : Slave) (t : Timing) → s.timing ≡ Some t → width s.registers.kind ≡ w → t.clock.reading < 2 ^ w → HasHistory w t.clock [] s
of_start w s t e wide fits = rw e (record { width = wide; began = omega arith; order = tt; past = All-nil _; possible = All-nil _; clock = sym (advanced_here w t.clock fits) })
