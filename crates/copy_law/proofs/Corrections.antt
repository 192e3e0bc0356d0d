-- Where no frame writes the speed, a clock takes as many ticks to a correction as before.
use Rattle.std.proofs.Common.{◌≡◌, ℕ, ◌+◌, Bool, true, false, nat_le, List, [], ◌∷◌, length, Option, Some, None, refl, sym, ap, ◌∙◌, arith}
use Rattle.std.specs.Prelude.{option_map}
use Rattle.copy_law.specs.Untouched.{ticks_to_correction}
use Rattle.ecat_frame.specs.FrameGrammar.{DatagramValue}
use Rattle.esc_regs.specs.RegisterAccess.{is_refused}
use Rattle.esc_regs.specs.RegisterBytes.{AreApart}
use Rattle.esc_regs.specs.RegisterWrite.{told, written}
use Rattle.esc_regs.specs.declared.answers.Written.{Written}
use Rattle.esc_regs.specs.declared.clock_kind.ClockKind.{ClockKind}
use Rattle.frame_pass.specs.Advancing.{advanced_to, measuring_at, ticked_to}
use Rattle.frame_pass.specs.DatagramAtSlave.{doing, slave_after}
use Rattle.frame_pass.specs.DatagramTable.{writes}
use Rattle.frame_pass.specs.FramePass.{are_latching, at_arrival, comes_by, port_latched, port_taken, ports_taken, slave_behind, slave_passed, when_latching}
use Rattle.frame_pass.specs.PlainRegisters.{AreLeft}
use Rattle.frame_pass.specs.SlaveState.{Measuring, Slave, Timing, on_measuring_of}
use Rattle.frame_pass.specs.WriteEffects.{activated, affected, arms, compared, latched, reset_by, wrote}
use Rattle.frame_pass.proofs.Exported.{not_covered}

abbrev g_of : Measuring → ℕ
g_of m = m.timing.clock.g

-- what leaves it at a measuring slave leaves it
same_on : (f : Measuring → Measuring) (s : Slave) (o : Option Timing) → s.timing ≡ o → ((m : Measuring) → g_of (f m) ≡ g_of m)
    → ticks_to_correction (on_measuring_of f s o) ≡ ticks_to_correction s
same_on f s None e keep = refl
same_on f s (Some t) e keep =
    ap (λ (g : ℕ). Some g) (keep (record { registers = s.registers; timing = t })) ∙ ap (option_map (λ (m : Timing). m.clock.g)) (sym e)

same_ticked : (t : ℕ) (m : Measuring) → g_of (measuring_at t m) ≡ g_of m
unfolding measuring_at ticked_to
same_ticked t m = by (nat_le m.timing.clock.instant t) refl
  where
    by : (b : Bool) → nat_le m.timing.clock.instant t ≡ b → g_of (measuring_at t m) ≡ g_of m
    by true e = rw e refl
    by false e = rw e refl

pub same_advanced : (t : ℕ) (s : Slave) → ticks_to_correction (advanced_to t s) ≡ ticks_to_correction s
unfolding advanced_to
same_advanced t s = same_on (measuring_at t) s s.timing refl (same_ticked t)

-- the effects of a write that brings no speed
same_latched : (b : Bool) (m : Measuring) → g_of (latched b m) ≡ g_of m
unfolding latched
same_latched false m = refl
same_latched true m = refl

same_compared : (o : Option ℕ) (m : Measuring) → g_of (compared o m) ≡ g_of m
unfolding compared
same_compared None m = refl
same_compared (Some x) m = refl

same_reset : (o : Option ℕ) (m : Measuring) → o ≡ None → g_of (reset_by o m) ≡ g_of m
unfolding reset_by
same_reset o m none = rw none refl

pub same_activated : (o : Option ℕ) (m : Measuring) → g_of (activated o m) ≡ g_of m
unfolding activated
same_activated None m = refl
same_activated (Some byte) m = by (arms byte m.registers) refl
  where
    by : (b : Bool) → arms byte m.registers ≡ b → g_of (activated (Some byte) m) ≡ g_of m
    by true e = rw e refl
    by false e = rw e refl

same_affected : (w : Written) (m : Measuring) → w.rate ≡ None → g_of (affected w m) ≡ g_of m
same_affected w m none =
    let a = latched w.latched m in
    let b = compared w.received a in
    same_activated w.activation (reset_by w.rate b) ∙ same_reset w.rate b none ∙ same_compared w.received a ∙ same_latched w.latched m

no_rate : (kind : ClockKind) (addr : ℕ) (bytes : List ℕ) → AreApart addr (length bytes) 0x0930 2 → (told kind addr bytes).rate ≡ None
no_rate kind addr bytes far = by (is_refused kind addr (length bytes)) refl
  where
    by : (b : Bool) → is_refused kind addr (length bytes) ≡ b → (told kind addr bytes).rate ≡ None
    by true e = rw e refl
    by false e = rw (e, not_covered 0x0930 2 addr (length bytes) (omega arith) far) refl

same_wrote : (addr : ℕ) (bytes : List ℕ) (s : Slave) → AreApart addr (length bytes) 0x0930 2 → ticks_to_correction (wrote addr bytes s) ≡ ticks_to_correction s
unfolding wrote
same_wrote addr bytes s far =
    same_on (affected (told s.registers.kind addr bytes)) (record s { registers = written s.registers addr bytes }) s.timing refl
    (λ m. same_affected (told s.registers.kind addr bytes) m (no_rate s.registers.kind addr bytes far))

same_datagram : (s : Slave) (d : DatagramValue) → (writes (doing s d) ≡ true → AreApart d.head.ado (length d.payload) 0x0930 2)
    → ticks_to_correction (slave_after s d) ≡ ticks_to_correction s
unfolding slave_after
same_datagram s d far = by (writes (doing s d)) refl
  where
    by : (b : Bool) → writes (doing s d) ≡ b → ticks_to_correction (slave_after s d) ≡ ticks_to_correction s
    by true e = rw e (same_wrote d.head.ado d.payload s (far e))
    by false e = rw e refl

same_behind : (s : Slave) (ds : List DatagramValue) → AreLeft 0x0930 2 s ds → ticks_to_correction (slave_behind s ds) ≡ ticks_to_correction s
unfolding slave_behind AreLeft
same_behind s [] left = refl
same_behind s (d ∷ ds) left = same_behind (slave_after s d) ds left.1 ∙ same_datagram s d left.0

-- ports that latch
same_port : (sent : ℕ) (end : Option ℕ) (addr : ℕ) (o : Option ℕ) (s : Slave) → ticks_to_correction (port_taken sent end addr o s) ≡ ticks_to_correction s
unfolding port_taken
same_port sent end addr None s = refl
same_port sent end addr (Some at) s = by (comes_by end at) refl
  where
    a : Slave
    a = advanced_to (sent + at) s

    by : (b : Bool) → comes_by end at ≡ b → ticks_to_correction (port_taken sent end addr (Some at) s) ≡ ticks_to_correction s
    by true e = rw e (same_on (port_latched addr) a a.timing refl (λ m. refl) ∙ same_advanced (sent + at) s)
    by false e = rw e refl

pub same_ports : (sent : ℕ) (end : Option ℕ) (b : Bool) (s : Slave) → ticks_to_correction (when_latching b sent end s) ≡ ticks_to_correction s
unfolding ports_taken
same_ports sent end false s = refl
same_ports sent end true s =
    let s3 = port_taken sent end 0x090C s.visits.back3 s in
    let s1 = port_taken sent end 0x0904 s.visits.back1 s3 in
    same_port sent end 0x0908 s.visits.back2 s1 ∙ same_port sent end 0x0904 s.visits.back1 s3 ∙ same_port sent end 0x090C s.visits.back3 s

-- a whole frame
pub same_passed : (sent : ℕ) (end : Option ℕ) (s : Slave) (ds : List DatagramValue) → AreLeft 0x0930 2 (at_arrival sent s) ds
    → ticks_to_correction (slave_passed sent end s ds) ≡ ticks_to_correction s
unfolding slave_passed
same_passed sent end s ds left =
    let a = at_arrival sent s in
    same_ports sent end (are_latching a ds) (slave_behind a ds) ∙ same_behind a ds left ∙ same_advanced (sent + s.visits.arrive) s
