-- What every datagram leaves of a slave.
use Rattle.std.proofs.Common.{◌≡◌, ℕ, ◌+◌, List, Option, Some, None, Bool, true, false, refl, ◌∙◌, arith, inr}
use Rattle.std.specs.Prelude.{if◌then◌else◌}
use Rattle.std.specs.List.{list_all}
use Rattle.std.specs.Option.{is_some}
use Rattle.ecat_frame.specs.FrameGrammar.{DatagramValue}
use Rattle.esc_regs.specs.RegisterTable.{registers}
use Rattle.esc_regs.specs.RegisterAccess.{rate_by}
use Rattle.esc_regs.specs.RegisterWrite.{written, told}
use Rattle.esc_regs.specs.declared.answers.Written.{Written}
use Rattle.esc_regs.specs.declared.clock_kind.ClockKind.{ClockKind}
use Rattle.esc_regs.proofs.Exported.{unwritable, written_kind}
use Rattle.frame_pass.specs.SlaveState.{Timing, Measuring, Slave, holds, on_measuring_of}
use Rattle.frame_pass.specs.WriteEffects.{latched, compared, reset_by, activated, affected, wrote, arms}
use Rattle.frame_pass.specs.DatagramTable.{writes}
use Rattle.frame_pass.specs.DatagramAtSlave.{doing, slave_after}
use Rattle.frame_pass.specs.PlainRegisters.{IsPlain}
use Rattle.frame_pass.proofs.Exported.{plain_datagram, HasSize, size_after, is_shut, shut}
use Rattle.honest_slaves.specs.Standing.{IsSlave}

-- the kind
kind_latched : (b : Bool) (m : Measuring) → (latched b m).registers.kind ≡ m.registers.kind
unfolding latched
kind_latched false m = refl
kind_latched true m = refl

kind_compared : (o : Option ℕ) (m : Measuring) → (compared o m).registers.kind ≡ m.registers.kind
unfolding compared
kind_compared None m = refl
kind_compared (Some x) m = refl

kind_reset : (o : Option ℕ) (m : Measuring) → (reset_by o m).registers.kind ≡ m.registers.kind
unfolding reset_by
kind_reset None m = refl
kind_reset (Some rate) m = refl

kind_activated : (o : Option ℕ) (m : Measuring) → (activated o m).registers.kind ≡ m.registers.kind
unfolding activated
kind_activated None m = refl
kind_activated (Some byte) m = by (arms byte m.registers) refl
  where
    by : (b : Bool) → arms byte m.registers ≡ b → (activated (Some byte) m).registers.kind ≡ m.registers.kind
    by true e = rw e refl
    by false e = rw e refl

kind_affected : (tells : Written) (m : Measuring) → (affected tells m).registers.kind ≡ m.registers.kind
kind_affected tells m =
    let a = latched tells.latched m in
    let b = compared tells.received a in
    kind_activated tells.activation (reset_by tells.rate b) ∙ kind_reset tells.rate b ∙ kind_compared tells.received a ∙ kind_latched tells.latched m

kind_on : (tells : Written) (s : Slave) (o : Option Timing) → (on_measuring_of (affected tells) s o).registers.kind ≡ s.registers.kind
kind_on tells s None = refl
kind_on tells s (Some t) = kind_affected tells (record { registers = s.registers; timing = t })

kind_wrote : (addr : ℕ) (bytes : List ℕ) (s : Slave) → (wrote addr bytes s).registers.kind ≡ s.registers.kind
unfolding wrote
kind_wrote addr bytes s =
    kind_on (told s.registers.kind addr bytes) (record s { registers = written s.registers addr bytes }) s.timing ∙ written_kind s.registers addr bytes

pub kind_after : (s : Slave) (d : DatagramValue) → (slave_after s d).registers.kind ≡ s.registers.kind
unfolding slave_after
kind_after s d = by (writes (doing s d)) refl
  where
    by : (b : Bool) → writes (doing s d) ≡ b → (slave_after s d).registers.kind ≡ s.registers.kind
    by true e = rw e (kind_wrote d.head.ado d.payload s)
    by false e = rw e refl

-- registers of which no write stores a byte
pub never_stored : (at n : ℕ) → IsPlain at n → ((b : Bool) → list_all (is_shut b at (at + n)) registers ≡ true) → (s : Slave) (d : DatagramValue) → HasSize s.registers
    → holds n at (slave_after s d).registers ≡ holds n at s.registers
never_stored at n plain all s d size = plain_datagram at n s d plain size ∙ by (writes (doing s d)) refl
  where
    by : (b : Bool) → writes (doing s d) ≡ b → holds n at (if writes (doing s d) then written s.registers d.head.ado d.payload else s.registers) ≡ holds n at s.registers
    by true e =
        let in_range = is_some (rate_by d.head.ado d.payload) in
        rw e (unwritable s.registers d.head.ado d.payload at n size
        (λ k less. shut s.registers.kind in_range at (at + n) (at + k) (all in_range) (omega arith) (omega (arith, less))))
    by false e = rw e refl

pub features_plain : IsPlain 0x0008 2
features_plain = record { ports = inr (omega arith); unit = inr (omega arith); difference = inr (omega arith); status = inr (omega arith); stamp = inr (omega arith) }

pub status_plain : IsPlain 0x0110 2
status_plain = record { ports = inr (omega arith); unit = inr (omega arith); difference = inr (omega arith); status = inr (omega arith); stamp = inr (omega arith) }

features_shut : (b : Bool) → list_all (is_shut b 0x0008 (0x0008 + 2)) registers ≡ true
features_shut true = refl
features_shut false = refl

status_shut : (b : Bool) → list_all (is_shut b 0x0110 (0x0110 + 2)) registers ≡ true
status_shut true = refl
status_shut false = refl

-- a slave stays what it is, whatever datagram comes
pub slave_stays : (kind : ClockKind) (status : ℕ) (s : Slave) (d : DatagramValue) → IsSlave kind status s → IsSlave kind status (slave_after s d)
slave_stays kind status s d h = record {
  size = size_after s d h.size;
  kind_is = kind_after s d ∙ h.kind_is;
  features_are = never_stored 0x0008 2 features_plain features_shut s d h.size ∙ h.features_are;
  status_is = never_stored 0x0110 2 status_plain status_shut s d h.size ∙ h.status_is;
}
