-- What the effects of a write leave of a slave's clock and registers.
use Rattle.std.proofs.Common.{◌≡◌, ℕ, ◌+◌, ◌%◌, ◌^◌, ◌<◌, ◌≤◌, List, Option, Some, None, Bool, true, false, nat_le, refl, ◌∙◌, arith, inl, inr}
use Rattle.esc_regs.specs.RegisterBytes.{AreApart}
use Rattle.esc_regs.specs.RegisterFile.{Registers}
use Rattle.esc_regs.specs.RegisterWrite.{written, told}
use Rattle.esc_regs.specs.declared.answers.Written.{Written}
use Rattle.esc_regs.proofs.Exported.{apart, number_again, unwritable}
use Rattle.latch_unit.specs.Stamp.{stamp_by}
use Rattle.frame_pass.specs.SlaveState.{Timing, Measuring, Slave, holds, holding, width_of, offset, on_measuring_of}
use Rattle.frame_pass.specs.Advancing.{advanced_to, measuring_at, ticked_to, stamped}
use Rattle.frame_pass.specs.WriteEffects.{latched, compared, reset_by, activated, affected, wrote, difference, difference_shown, arms}
use Rattle.frame_pass.proofs.Sizes.{HasSize, size_written, size_holding, size_stamped}
use Rattle.frame_pass.specs.ReceiveTimes.{IsReceiveTime}
use Rattle.frame_pass.proofs.Table.{ports_unwritable, unit_unwritable}

-- a register that is set leaves those apart from it
pub left_holding : (m addr x at n : ℕ) (r : Registers) → addr + m ≤ 4096 → HasSize r → AreApart addr m at n → holds n at (holding m addr x r) ≡ holds n at r
left_holding m addr x at n r room size far = apart m addr x r.bytes at n (omega (arith, room, size)) far

-- and holds what it was set to
pub set_holding : (n addr x : ℕ) (r : Registers) → addr + n ≤ 4096 → HasSize r → x < 256 ^ n → holds n addr (holding n addr x r) ≡ x
set_holding n addr x r room size fits = number_again n addr x r.bytes (omega (arith, room, size)) fits

-- A measuring slave with 4096 bytes of registers, whose clock stands at t and shows x.
pub record Shows (t x : ℕ) (m : Measuring) : Type 0 where
  pub size : HasSize m.registers
  pub instant : m.timing.clock.instant ≡ t
  pub reading : m.timing.clock.reading ≡ x

pub shows_latched : (t x : ℕ) (b : Bool) (m : Measuring) → Shows t x m → Shows t x (latched b m)
unfolding latched
shows_latched t x false m h = h
shows_latched t x true m h = record {
  size = size_holding 8 0x0918 m.timing.clock.reading (holding 4 0x0900 (m.timing.clock.reading % 2 ^ 32) m.registers) (omega arith)
      (size_holding 4 0x0900 (m.timing.clock.reading % 2 ^ 32) m.registers (omega arith) h.size);
  instant = h.instant;
  reading = h.reading;
}

pub shows_compared : (t x : ℕ) (o : Option ℕ) (m : Measuring) → Shows t x m → Shows t x (compared o m)
unfolding compared
shows_compared t x None m h = h
shows_compared t x (Some y) m h = record { size = size_holding 4 0x092C _ m.registers (omega arith) h.size; instant = h.instant; reading = h.reading }

pub shows_reset : (t x : ℕ) (o : Option ℕ) (m : Measuring) → Shows t x m → Shows t x (reset_by o m)
unfolding reset_by
shows_reset t x None m h = h
shows_reset t x (Some g) m h = record { size = size_holding 4 0x092C 0 m.registers (omega arith) h.size; instant = h.instant; reading = h.reading }

pub shows_activated : (t x : ℕ) (o : Option ℕ) (m : Measuring) → Shows t x m → Shows t x (activated o m)
unfolding activated
shows_activated t x None m h = h
shows_activated t x (Some byte) m h = by (arms byte m.registers) refl
  where
    by : (b : Bool) → arms byte m.registers ≡ b → Shows t x (activated (Some byte) m)
    by true e = rw e (record { size = h.size; instant = h.instant; reading = h.reading })
    by false e = rw e (record { size = h.size; instant = h.instant; reading = h.reading })

pub shows_affected : (t x : ℕ) (tells : Written) (m : Measuring) → Shows t x m → Shows t x (affected tells m)
shows_affected t x tells m h =
    shows_activated t x tells.activation _ (shows_reset t x tells.rate _ (shows_compared t x tells.received _ (shows_latched t x tells.latched m h)))

-- but for the difference, only what latches changes registers
left_activated : (at n : ℕ) (o : Option ℕ) (m : Measuring) → holds n at (activated o m).registers ≡ holds n at m.registers
unfolding activated
left_activated at n None m = refl
left_activated at n (Some byte) m = by (arms byte m.registers) refl
  where
    by : (b : Bool) → arms byte m.registers ≡ b → holds n at (activated (Some byte) m).registers ≡ holds n at m.registers
    by true e = rw e refl
    by false e = rw e refl

left_reset : (at n : ℕ) (o : Option ℕ) (m : Measuring) → AreApart 0x092C 4 at n → HasSize m.registers → holds n at (reset_by o m).registers ≡ holds n at m.registers
unfolding reset_by
left_reset at n None m far size = refl
left_reset at n (Some rate) m far size = left_holding 4 0x092C 0 at n m.registers (omega arith) size far

left_compared : (at n : ℕ) (o : Option ℕ) (m : Measuring) → AreApart 0x092C 4 at n → HasSize m.registers → holds n at (compared o m).registers ≡ holds n at m.registers
unfolding compared
left_compared at n None m far size = refl
left_compared at n (Some x) m far size = left_holding 4 0x092C (difference_shown (difference m x)) at n m.registers (omega arith) size far

pub left_affected : (at n : ℕ) (tells : Written) (m : Measuring) → AreApart 0x092C 4 at n → HasSize m.registers
    → holds n at (affected tells m).registers ≡ holds n at (latched tells.latched m).registers
left_affected at n tells m far size =
    let a = latched tells.latched m in
    let b = compared tells.received a in
    let fit = shows_latched m.timing.clock.instant m.timing.clock.reading tells.latched m (record { size = size; instant = refl; reading = refl }) in
    let fit' = shows_compared m.timing.clock.instant m.timing.clock.reading tells.received a fit in
    left_activated at n tells.activation (reset_by tells.rate b) ∙ left_reset at n tells.rate b far fit'.size ∙ left_compared at n tells.received a far fit.size

-- a write stores nothing in the receive times
pub unwritten : (at n addr : ℕ) (bytes : List ℕ) (r : Registers) → IsReceiveTime at n → HasSize r → holds n at (written r addr bytes) ≡ holds n at r
unwritten at n addr bytes r (inl h) size =
    unwritable r addr bytes at n size (λ k less. let from = h.0 in let to = h.1 in ports_unwritable r.kind _ (at + k) (omega (arith, from)) (omega (arith, to, less)))
unwritten at n addr bytes r (inr h) size =
    unwritable r addr bytes at n size (λ k less. let from = h.0 in let to = h.1 in unit_unwritable r.kind _ (at + k) (omega (arith, from)) (omega (arith, to, less)))

far_from_difference : (at n : ℕ) → IsReceiveTime at n → AreApart 0x092C 4 at n
far_from_difference at n (inl h) = inr (let to = h.1 in omega (arith, to))
far_from_difference at n (inr h) = inr (let to = h.1 in omega (arith, to))

-- What a write that is stored makes of the receive times: what latching makes of them.
pub times_wrote : (at n addr : ℕ) (bytes : List ℕ) (s : Slave) (m : Timing) → IsReceiveTime at n → s.timing ≡ Some m → HasSize s.registers
    → holds n at (wrote addr bytes s).registers
    ≡ holds n at (latched (told s.registers.kind addr bytes).latched (record { registers = written s.registers addr bytes; timing = m })).registers
unfolding wrote
times_wrote at n addr bytes s m is e size =
    rw e (left_affected at n (told s.registers.kind addr bytes) (record { registers = written s.registers addr bytes; timing = m }) (far_from_difference at n is)
    (size_written s.registers addr bytes size))

pub times_unlatched : (at n addr : ℕ) (bytes : List ℕ) (s : Slave) → IsReceiveTime at n → HasSize s.registers → (told s.registers.kind addr bytes).latched ≡ false
    → holds n at (wrote addr bytes s).registers ≡ holds n at s.registers
unfolding wrote latched
times_unlatched at n addr bytes s is size quiet = by s.timing refl
  where
    by : (o : Option Timing) → s.timing ≡ o → holds n at (wrote addr bytes s).registers ≡ holds n at s.registers
    by None e = rw e (unwritten at n addr bytes s.registers is size)
    by (Some m) e = times_wrote at n addr bytes s m is e size ∙ rw quiet (unwritten at n addr bytes s.registers is size)

pub size_wrote : (addr : ℕ) (bytes : List ℕ) (s : Slave) → HasSize s.registers → HasSize (wrote addr bytes s).registers
unfolding wrote
size_wrote addr bytes s size = by s.timing refl
  where
    r : Registers
    r = written s.registers addr bytes

    by : (o : Option Timing) → s.timing ≡ o → HasSize (on_measuring_of (affected (told s.registers.kind addr bytes)) (record s { registers = r }) s.timing).registers
    by None e = rw e (size_written s.registers addr bytes size)
    by (Some m) e =
        let k = shows_affected m.clock.instant m.clock.reading (told s.registers.kind addr bytes) (record { registers = r; timing = m })
        (record { size = size_written s.registers addr bytes size; instant = refl; reading = refl }) in
        rw e k.size

-- time leaves what is apart from the latch input's registers
left_stamped : (at n : ℕ) (o : Option ℕ) (r : Registers) → AreApart 0x09AE 1 at n → AreApart 0x09B0 8 at n → HasSize r → holds n at (stamped o r) ≡ holds n at r
left_stamped at n None r status stamp size = refl
left_stamped at n (Some x) r status stamp size =
    left_holding 8 0x09B0 x at n (holding 1 0x09AE 1 r) (omega arith) (size_holding 1 0x09AE 1 r (omega arith) size) stamp
    ∙ left_holding 1 0x09AE 1 at n r (omega arith) size status

left_time : (at n t : ℕ) (m : Measuring) → AreApart 0x09AE 1 at n → AreApart 0x09B0 8 at n → HasSize m.registers → holds n at (measuring_at t m).registers ≡ holds n at m.registers
unfolding measuring_at ticked_to
left_time at n t m status stamp size = by (nat_le m.timing.clock.instant t) refl
  where
    by : (b : Bool) → nat_le m.timing.clock.instant t ≡ b → holds n at (measuring_at t m).registers ≡ holds n at m.registers
    by true e = rw e (left_stamped at n (stamp_by (width_of m) m.timing.clock (offset m.registers) t m.timing.event) m.registers status stamp size)
    by false e = rw e refl

pub left_advanced : (at n t : ℕ) (s : Slave) → AreApart 0x09AE 1 at n → AreApart 0x09B0 8 at n → HasSize s.registers → holds n at (advanced_to t s).registers ≡ holds n at s.registers
unfolding advanced_to
left_advanced at n t s status stamp size = by s.timing refl
  where
    by : (o : Option Timing) → s.timing ≡ o → holds n at (on_measuring_of (measuring_at t) s s.timing).registers ≡ holds n at s.registers
    by None e = rw e refl
    by (Some m) e = rw e (left_time at n t (record { registers = s.registers; timing = m }) status stamp size)

pub times_left : (at n t : ℕ) (s : Slave) → IsReceiveTime at n → HasSize s.registers → holds n at (advanced_to t s).registers ≡ holds n at s.registers
times_left at n t s (inl h) size = let to = h.1 in left_advanced at n t s (inr (omega (arith, to))) (inr (omega (arith, to))) size
times_left at n t s (inr h) size = let to = h.1 in left_advanced at n t s (inr (omega (arith, to))) (inr (omega (arith, to))) size

size_time : (t : ℕ) (m : Measuring) → HasSize m.registers → HasSize (measuring_at t m).registers
unfolding measuring_at ticked_to
size_time t m size = by (nat_le m.timing.clock.instant t) refl
  where
    by : (b : Bool) → nat_le m.timing.clock.instant t ≡ b → HasSize (measuring_at t m).registers
    by true e = rw e (size_stamped (stamp_by (width_of m) m.timing.clock (offset m.registers) t m.timing.event) m.registers size)
    by false e = rw e size

pub size_advanced : (t : ℕ) (s : Slave) → HasSize s.registers → HasSize (advanced_to t s).registers
unfolding advanced_to
size_advanced t s size = by s.timing refl
  where
    by : (o : Option Timing) → s.timing ≡ o → HasSize (on_measuring_of (measuring_at t) s s.timing).registers
    by None e = rw e size
    by (Some m) e = rw e (size_time t (record { registers = s.registers; timing = m }) size)
