-- Clocks that receive no difference, and readings as advances.
use Rattle.std.proofs.Common.{◌≡◌, ℕ, ◌+◌, ◌≤◌, List, [], ◌∷◌, ◌++◌, length, Option, Some, None, Bool, true, false, nat_le, refl, sym, ap, ◌∙◌, arith, subst}
use Rattle.std.specs.Prelude.{pos}
use Rattle.std.proofs.lemmas.List.{append-nil}
use Rattle.ecat_frame.specs.FrameGrammar.{DatagramValue}
use Rattle.osc_clock.specs.Ticks.{IsRunning}
use Rattle.local_clock.specs.Reading.{Clock, Happening, Event, AreUntil, received, reset, after_event, advanced, clock_at, reading_at, ticks_to}
use Rattle.local_clock.proofs.Exported.{in_turn, rests}
use Rattle.esc_regs.specs.RegisterBytes.{AreApart}
use Rattle.esc_regs.specs.declared.answers.Written.{Written}
use Rattle.esc_regs.specs.declared.clock_kind.ClockKind.{ClockKind}
use Rattle.esc_regs.specs.RegisterAccess.{is_refused}
use Rattle.esc_regs.specs.RegisterWrite.{written, told}
use Rattle.frame_pass.specs.SlaveState.{Timing, Measuring, Slave}
use Rattle.frame_pass.specs.DatagramTable.{writes}
use Rattle.frame_pass.specs.DatagramAtSlave.{doing, slave_after}
use Rattle.frame_pass.specs.FramePass.{at_arrival}
use Rattle.frame_pass.specs.ClockHistory.{HasHistory, reset_of, events_told, events_on, events_wrote, events_by, events_in, events_passed}
use Rattle.frame_pass.specs.PlainRegisters.{AreLeft}
use Rattle.frame_pass.proofs.Sizes.{HasSize}
use Rattle.frame_pass.specs.Rest.{IsReset, AreResets}
use Rattle.frame_pass.proofs.Drifting.{not_covered}
use Rattle.frame_pass.proofs.Ports.{goes_behind}

pub joined : (es fs : List Happening) → AreResets es → AreResets fs → AreResets (es ++ fs)
joined [] fs a b = b
joined (e ∷ es) fs a b = (a.0, joined es fs a.1 b)

-- a clock with nothing left has nothing left later
left_advanced : (w t : ℕ) (c : Clock) → c.left ≡ pos 0 → (advanced w t c).left ≡ pos 0
left_advanced w t c e = rw e (ap (λ s. s.left) (rests c.g (ticks_to c t) c.count).0)

left_event : (v : Event) (c : Clock) → IsReset v → (after_event v c).left ≡ pos 0
left_event (received d) c a = absurd a
left_event (reset g) c a = refl

left_by : (w t : ℕ) (c : Clock) (h : Happening) (es : List Happening) (b : Bool) → nat_le h.instant t ≡ b → (clock_at w (after_event h.event (advanced w h.instant c)) es t).left ≡ pos 0
    → (advanced w t c).left ≡ pos 0 → (clock_at w c (h ∷ es) t).left ≡ pos 0
left_by w t c h es true e past now = rw e past
left_by w t c h es false e past now = rw e now

pub left_at : (w t : ℕ) (c : Clock) (es : List Happening) → AreResets es → c.left ≡ pos 0 → (clock_at w c es t).left ≡ pos 0
left_at w t c [] a e = left_advanced w t c e
left_at w t c (h ∷ es) a e =
    let d = after_event h.event (advanced w h.instant c) in
    left_by w t c h es (nat_le h.instant t) refl (left_at w t d es a.1 (left_event h.event (advanced w h.instant c) a.0)) (left_advanced w t c e)

-- a write apart from the system time brings resets alone
reset_alone : (o : Option ℕ) (m : Measuring) → AreResets (reset_of o m)
reset_alone None m = tt
reset_alone (Some g) m = (tt, tt)

told_resets : (tells : Written) (m : Measuring) → tells.received ≡ None → AreResets (events_told tells m)
told_resets tells m e = rw e (reset_alone tells.rate m)

none_received : (kind : ClockKind) (addr : ℕ) (bytes : List ℕ) → AreApart addr (length bytes) 0x0910 4 → (told kind addr bytes).received ≡ None
none_received kind addr bytes far = by (is_refused kind addr (length bytes)) refl
  where
    by : (b : Bool) → is_refused kind addr (length bytes) ≡ b → (told kind addr bytes).received ≡ None
    by true e = rw e refl
    by false e = rw (e, not_covered 0x0910 4 addr (length bytes) (omega arith) far) refl

resets_wrote : (addr : ℕ) (bytes : List ℕ) (s : Slave) → AreApart addr (length bytes) 0x0910 4 → AreResets (events_wrote addr bytes s)
unfolding events_wrote
resets_wrote addr bytes s far = by s.timing refl
  where
    by : (o : Option Timing) → s.timing ≡ o → AreResets (events_on (told s.registers.kind addr bytes) (written s.registers addr bytes) s.timing)
    by None e = rw e tt
    by (Some m) e =
        rw e (told_resets (told s.registers.kind addr bytes) (record { registers = written s.registers addr bytes; timing = m }) (none_received s.registers.kind addr bytes far))

resets_datagram : (s : Slave) (d : DatagramValue) → (writes (doing s d) ≡ true → AreApart d.head.ado (length d.payload) 0x0910 4) → AreResets (events_by s d)
unfolding events_by
resets_datagram s d far = by (writes (doing s d)) refl
  where
    by : (b : Bool) → writes (doing s d) ≡ b → AreResets (events_by s d)
    by true e = rw e (resets_wrote d.head.ado d.payload s (far e))
    by false e = rw e tt

resets_datagrams : (s : Slave) (ds : List DatagramValue) → AreLeft 0x0910 4 s ds → AreResets (events_in s ds)
unfolding events_in AreLeft
resets_datagrams s [] far = tt
resets_datagrams s (d ∷ ds) far = joined (events_by s d) (events_in (slave_after s d) ds) (resets_datagram s d far.0) (resets_datagrams (slave_after s d) ds far.1)

pub resets_passed : (sent : ℕ) (s : Slave) (ds : List DatagramValue) → AreLeft 0x0910 4 (at_arrival sent s) ds → AreResets (events_passed sent s ds)
resets_passed sent s ds far = resets_datagrams (at_arrival sent s) ds far

-- a reading after a frame's arrival is that of the clock that stood at the arrival
pub readings_later : (w : ℕ) (c : Clock) (es : List Happening) (sent u : ℕ) (s : Slave) (m : Timing) (ds : List DatagramValue) → IsRunning c.osc → s.timing ≡ Some m → HasSize s.registers
    → m.clock.instant ≤ sent + s.visits.arrive → HasHistory w c es s → sent + s.visits.arrive ≤ u
    → reading_at w c (es ++ events_passed sent s ds) u ≡ (advanced w u (clock_at w c (es ++ events_passed sent s ds) (sent + s.visits.arrive))).reading
readings_later w c es sent u s m ds run e size early h late =
    let t = sent + s.visits.arrive in
    let all = es ++ events_passed sent s ds in
    let k = goes_behind w c es sent s m ds run e size early h in
    let i = k.goes.history in
    let began : c.instant ≤ t = let b = i.began in omega (arith, b, k.instant) in
    let past : AreUntil t all = subst (λ v. AreUntil v all) k.instant i.past in
    ap (λ z. z.reading) (sym (in_turn w t u c all [] run began late past tt ∙ ap (λ hs. clock_at w c hs u) (append-nil all)))
