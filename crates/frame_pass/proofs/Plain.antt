-- What changes registers, and what does not.
use Rattle.std.proofs.Common.{◌≡◌, ℕ, ◌+◌, ◌%◌, ◌^◌, ◌≤◌, List, [], ◌∷◌, length, Option, Some, None, Bool, true, false, nat_le, refl, ◌∙◌, arith, inl, inr}
use Rattle.std.specs.Prelude.{IfSome, if◌then◌else◌}
use Rattle.ecat_frame.specs.FrameGrammar.{DatagramValue}
use Rattle.esc_regs.specs.RegisterBytes.{AreApart}
use Rattle.esc_regs.specs.RegisterFile.{Registers}
use Rattle.esc_regs.specs.RegisterWrite.{written, told}
use Rattle.esc_regs.specs.declared.answers.Written.{Written}
use Rattle.esc_regs.proofs.Exported.{apart, untouched}
use Rattle.frame_pass.specs.SlaveState.{Timing, Measuring, Slave, holds, holding, width_of, offset, on_measuring_of}
use Rattle.latch_unit.specs.Stamp.{stamp_by}
use Rattle.frame_pass.specs.Advancing.{advanced_to, measuring_at, ticked_to, stamped}
use Rattle.frame_pass.specs.WriteEffects.{latched, compared, reset_by, activated, affected, wrote, difference, difference_shown, arms}
use Rattle.frame_pass.specs.DatagramTable.{writes}
use Rattle.frame_pass.specs.DatagramAtSlave.{doing, slave_after}
use Rattle.frame_pass.specs.FramePass.{slave_behind, port_latched, port_taken, ports_taken, comes_by, at_arrival, when_latching, are_latching, slave_passed}
use Rattle.frame_pass.specs.Invariants.{IsSound}
use Rattle.frame_pass.specs.PlainRegisters.{IsPlain, AreLeft}
use Rattle.frame_pass.proofs.Sizes.{HasSize, size_written, size_holding}
use Rattle.frame_pass.proofs.Keeping.{kept_after, kept_behind, kept_port}
use Rattle.frame_pass.proofs.Sound.{fit_latched, fit_compared, sound_at, keeps_sound, visited}

-- a part of what is apart
inner : (a m b k at n : ℕ) → a ≤ b → b + k ≤ a + m → AreApart a m at n → AreApart b k at n
inner a m b k at n low high (inl before) = inl (omega (arith, high, before))
inner a m b k at n low high (inr behind) = inr (omega (arith, low, behind))

-- a register that is set leaves those apart from it
left_holding : (m addr x at n : ℕ) (r : Registers) → addr + m ≤ 4096 → HasSize r → AreApart addr m at n → holds n at (holding m addr x r) ≡ holds n at r
left_holding m addr x at n r room size far = apart m addr x r.bytes at n (omega (arith, room, size)) far

left_latched : (at n : ℕ) (b : Bool) (m : Measuring) → IsPlain at n → HasSize m.registers → holds n at (latched b m).registers ≡ holds n at m.registers
unfolding latched
left_latched at n false m p size = refl
left_latched at n true m p size =
    let x = m.timing.clock.reading in
    left_holding 8 0x0918 x at n (holding 4 0x0900 (x % 2 ^ 32) m.registers) (omega arith) (size_holding 4 0x0900 (x % 2 ^ 32) m.registers (omega arith) size) p.unit
    ∙ left_holding 4 0x0900 (x % 2 ^ 32) at n m.registers (omega arith) size (inner 0x0900 16 0x0900 4 at n (omega arith) (omega arith) p.ports)

left_compared : (at n : ℕ) (o : Option ℕ) (m : Measuring) → IsPlain at n → HasSize m.registers → holds n at (compared o m).registers ≡ holds n at m.registers
unfolding compared
left_compared at n None m p size = refl
left_compared at n (Some x) m p size = left_holding 4 0x092C (difference_shown (difference m x)) at n m.registers (omega arith) size p.difference

left_reset : (at n : ℕ) (o : Option ℕ) (m : Measuring) → IsPlain at n → HasSize m.registers → holds n at (reset_by o m).registers ≡ holds n at m.registers
unfolding reset_by
left_reset at n None m p size = refl
left_reset at n (Some rate) m p size = left_holding 4 0x092C 0 at n m.registers (omega arith) size p.difference

left_activated : (at n : ℕ) (o : Option ℕ) (m : Measuring) → holds n at (activated o m).registers ≡ holds n at m.registers
unfolding activated
left_activated at n None m = refl
left_activated at n (Some byte) m = by (arms byte m.registers) refl
  where
    by : (b : Bool) → arms byte m.registers ≡ b → holds n at (activated (Some byte) m).registers ≡ holds n at m.registers
    by true e = rw e refl
    by false e = rw e refl

-- the effects of a write leave plain registers
left_affected : (at n : ℕ) (tells : Written) (m : Measuring) → IsPlain at n → HasSize m.registers → holds n at (affected tells m).registers ≡ holds n at m.registers
left_affected at n tells m p size =
    let a = latched tells.latched m in
    let b = compared tells.received a in
    let fit = fit_latched m.timing.clock.instant tells.latched m (record { size = size; time = omega arith }) in
    let fit' = fit_compared m.timing.clock.instant tells.received a fit in
    left_activated at n tells.activation (reset_by tells.rate b) ∙ left_reset at n tells.rate b p fit'.size
    ∙ left_compared at n tells.received a p fit.size ∙ left_latched at n tells.latched m p size

left_on : (at n : ℕ) (f : Measuring → Measuring) (s : Slave) (o : Option Timing) → ((m : Measuring) → m.registers ≡ s.registers → holds n at (f m).registers ≡ holds n at m.registers)
    → holds n at (on_measuring_of f s o).registers ≡ holds n at s.registers
left_on at n f s None keep = refl
left_on at n f s (Some t) keep = keep (record { registers = s.registers; timing = t }) refl

-- a write changes of them what it stores
plain_wrote : (at n addr : ℕ) (bytes : List ℕ) (s : Slave) → IsPlain at n → HasSize s.registers → holds n at (wrote addr bytes s).registers ≡ holds n at (written s.registers addr bytes)
unfolding wrote
plain_wrote at n addr bytes s p size =
    left_on at n (affected (told s.registers.kind addr bytes)) (record s { registers = written s.registers addr bytes }) s.timing
    (λ m e. left_affected at n (told s.registers.kind addr bytes) m p (rw e (size_written s.registers addr bytes size)))

pub plain_datagram : (at n : ℕ) (s : Slave) (d : DatagramValue) → IsPlain at n → HasSize s.registers
    → holds n at (slave_after s d).registers ≡ holds n at (if writes (doing s d) then written s.registers d.head.ado d.payload else s.registers)
unfolding slave_after
plain_datagram at n s d p size = by (writes (doing s d)) refl
  where
    by : (b : Bool) → writes (doing s d) ≡ b → holds n at (slave_after s d).registers ≡ holds n at (if writes (doing s d) then written s.registers d.head.ado d.payload else s.registers)
    by true e = rw e (plain_wrote at n d.head.ado d.payload s p size)
    by false e = rw e refl

left_stamped : (at n : ℕ) (o : Option ℕ) (r : Registers) → IsPlain at n → HasSize r → holds n at (stamped o r) ≡ holds n at r
left_stamped at n None r p size = refl
left_stamped at n (Some x) r p size =
    left_holding 8 0x09B0 x at n (holding 1 0x09AE 1 r) (omega arith) (size_holding 1 0x09AE 1 r (omega arith) size) p.stamp
    ∙ left_holding 1 0x09AE 1 at n r (omega arith) size p.status

left_time : (at n t : ℕ) (m : Measuring) → IsPlain at n → HasSize m.registers → holds n at (measuring_at t m).registers ≡ holds n at m.registers
unfolding measuring_at ticked_to
left_time at n t m p size = by (nat_le m.timing.clock.instant t) refl
  where
    by : (b : Bool) → nat_le m.timing.clock.instant t ≡ b → holds n at (measuring_at t m).registers ≡ holds n at m.registers
    by true e = rw e (left_stamped at n (stamp_by (width_of m) m.timing.clock (offset m.registers) t m.timing.event) m.registers p size)
    by false e = rw e refl

pub plain_time : (at n t : ℕ) (s : Slave) → IsPlain at n → HasSize s.registers → holds n at (advanced_to t s).registers ≡ holds n at s.registers
unfolding advanced_to
plain_time at n t s p size = left_on at n (measuring_at t) s s.timing (λ m e. left_time at n t m p (rw e size))

plain_port : (at n sent trip limit : ℕ) (end : Option ℕ) (addr : ℕ) → AreApart addr 4 at n → addr + 4 ≤ 4096 → (o : Option ℕ) → IfSome o (λ t. sent + t ≤ limit)
    → (s : Slave) → IsPlain at n → IsSound trip limit s → holds n at (port_taken sent end addr o s).registers ≡ holds n at s.registers
unfolding port_taken
plain_port at n sent trip limit end addr far room None low s p h = refl
plain_port at n sent trip limit end addr far room (Some t) low s p h = by (comes_by end t) refl
  where
    a : Slave
    a = advanced_to (sent + t) s

    by : (b : Bool) → comes_by end t ≡ b → holds n at (port_taken sent end addr (Some t) s).registers ≡ holds n at s.registers
    by true e =
        let there = sound_at trip limit (sent + t) s low h in
        rw e (left_on at n (port_latched addr) a a.timing
        (λ m k. left_holding 4 addr (m.timing.clock.reading % 2 ^ 32) at n m.registers room (rw k there.size) far)
        ∙ plain_time at n (sent + t) s p h.size)
    by false e = rw e refl

plain_ports : (at n sent trip limit : ℕ) (end : Option ℕ) (b : Bool) (s : Slave) → IsPlain at n → sent + trip ≤ limit → IsSound trip limit s
    → holds n at (when_latching b sent end s).registers ≡ holds n at s.registers
unfolding ports_taken
plain_ports at n sent trip limit end false s p low h = refl
plain_ports at n sent trip limit end true s p low h =
    let v = visited sent trip limit low s h in
    let s3 = port_taken sent end 0x090C s.visits.back3 s in
    let s1 = port_taken sent end 0x0904 s.visits.back1 s3 in
    let h3 = kept_port (λ t. t ≤ limit) (IsSound trip limit) (keeps_sound trip limit) sent end 0x090C (omega arith) s.visits.back3 v.back3 s h in
    let h1 = kept_port (λ t. t ≤ limit) (IsSound trip limit) (keeps_sound trip limit) sent end 0x0904 (omega arith) s.visits.back1 v.back1 s3 h3 in
    let far : (addr : ℕ) → 0x0900 ≤ addr → addr + 4 ≤ 0x0910 → AreApart addr 4 at n = λ addr low high. inner 0x0900 16 addr 4 at n low (omega (arith, high)) p.ports in
    plain_port at n sent trip limit end 0x0908 (far 0x0908 (omega arith) (omega arith)) (omega arith) s.visits.back2 v.back2 s1 p h1
    ∙ plain_port at n sent trip limit end 0x0904 (far 0x0904 (omega arith) (omega arith)) (omega arith) s.visits.back1 v.back1 s3 p h3
    ∙ plain_port at n sent trip limit end 0x090C (far 0x090C (omega arith) (omega arith)) (omega arith) s.visits.back3 v.back3 s p h

-- ports that latch leave them
pub plain_passed : (at n sent trip limit : ℕ) (end : Option ℕ) (s : Slave) (ds : List DatagramValue) → IsPlain at n → sent + trip ≤ limit → IsSound trip limit s
    → holds n at (slave_passed sent end s ds).registers ≡ holds n at (slave_behind (at_arrival sent s) ds).registers
unfolding slave_passed
plain_passed at n sent trip limit end s ds p low h =
    let a = at_arrival sent s in
    let there = sound_at trip limit (sent + s.visits.arrive) s (visited sent trip limit low s h).arrive h in
    let behind = kept_behind (λ t. t ≤ limit) (IsSound trip limit) (keeps_sound trip limit) a ds there in
    plain_ports at n sent trip limit end (are_latching a ds) (slave_behind a ds) p low behind

left_datagram : (at n : ℕ) (s : Slave) (d : DatagramValue) → IsPlain at n → HasSize s.registers → (writes (doing s d) ≡ true → AreApart d.head.ado (length d.payload) at n)
    → holds n at (slave_after s d).registers ≡ holds n at s.registers
left_datagram at n s d p size far = plain_datagram at n s d p size ∙ by (writes (doing s d)) refl
  where
    by : (b : Bool) → writes (doing s d) ≡ b → holds n at (if writes (doing s d) then written s.registers d.head.ado d.payload else s.registers) ≡ holds n at s.registers
    by true e = rw e (untouched s.registers d.head.ado d.payload at n size (far e))
    by false e = rw e refl

left_datagrams : (at n trip limit : ℕ) (s : Slave) (ds : List DatagramValue) → IsPlain at n → IsSound trip limit s → AreLeft at n s ds
    → holds n at (slave_behind s ds).registers ≡ holds n at s.registers
unfolding AreLeft slave_behind
left_datagrams at n trip limit s [] p h left = refl
left_datagrams at n trip limit s (d ∷ ds) p h left =
    left_datagrams at n trip limit (slave_after s d) ds p (kept_after (λ t. t ≤ limit) (IsSound trip limit) (keeps_sound trip limit) s d h) left.1
    ∙ left_datagram at n s d p h.size left.0

pub left_passed : (at n sent trip limit : ℕ) (end : Option ℕ) (s : Slave) (ds : List DatagramValue) → IsPlain at n → sent + trip ≤ limit → IsSound trip limit s
    → AreLeft at n (at_arrival sent s) ds → holds n at (slave_passed sent end s ds).registers ≡ holds n at s.registers
left_passed at n sent trip limit end s ds p low h left =
    let there = sound_at trip limit (sent + s.visits.arrive) s (visited sent trip limit low s h).arrive h in
    plain_passed at n sent trip limit end s ds p low h ∙ left_datagrams at n trip limit (at_arrival sent s) ds p there left
    ∙ plain_time at n (sent + s.visits.arrive) s p h.size
