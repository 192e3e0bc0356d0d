-- Time, port latches, and writes that activate only its own signals keep a slave to these.
use Rattle.std.proofs.Common.{◌≡◌, ℕ, ◌+◌, Bool, true, false, nat_le, List, Option, Some, None, refl}
use Rattle.std.specs.Prelude.{nat_lt, ◌&&◌, IfSome, if◌then◌else◌}
use Rattle.local_clock.specs.Reading.{ticks_to}
use Rattle.local_clock.specs.FirstReaching.{tick_after}
use Rattle.ecat_frame.specs.FrameGrammar.{DatagramValue}
use Rattle.esc_regs.specs.RegisterFile.{Registers}
use Rattle.esc_regs.specs.RegisterWrite.{written, told}
use Rattle.esc_regs.specs.declared.answers.Written.{Written}
use Rattle.sync_units.specs.ClockCopy.{copy_after}
use Rattle.sync_units.specs.Interval.{edges_to}
use Rattle.sync_units.specs.declared.edge.Signal.{Signal}
use Rattle.sync_units.specs.declared.edge.Signal.TheVariants.{Sync0, Sync1}
use Rattle.frame_pass.specs.SlaveState.{Timing, Measuring, Slave, on_measuring, on_measuring_of, width_of, offset, sync1_time, cycle_time}
use Rattle.frame_pass.specs.Advancing.{advanced_to, measuring_at, ticked_to}
use Rattle.frame_pass.specs.WriteEffects.{has_bit, latched, compared, reset_by, activated, affected, wrote, arms, sync1_by}
use Rattle.frame_pass.specs.DatagramTable.{writes}
use Rattle.frame_pass.specs.DatagramAtSlave.{doing, slave_after}
use Rattle.frame_pass.specs.FramePass.{comes_by, port_latched, port_taken, ports_taken, when_latching}
use Rattle.honest_slaves.specs.OwnSignals.{KeepsTo, SlaveKeepsTo}
use Rattle.honest_slaves.proofs.Raising.{mapped, put_all_of, unit_raises, unit_stays}

-- an activation that arms with no other signals
pub record MayActivate (own : Signal → Bool) (byte : ℕ) : Type 0 where
  pub sync0 : own Sync0 ≡ true
  pub sync1 : has_bit 2 byte ≡ true → own Sync1 ≡ true

module _ (own : Signal → Bool) where
  keeps_at : (t : ℕ) (m : Measuring) → KeepsTo own m.timing → KeepsTo own (measuring_at t m).timing
  unfolding measuring_at ticked_to
  keeps_at t m h = by (nat_le m.timing.clock.instant t) refl
    where
      by : (b : Bool) → nat_le m.timing.clock.instant t ≡ b → KeepsTo own (measuring_at t m).timing
      by true e =
          let w = width_of m in
          let c = m.timing.clock in
          let copy = copy_after w c (offset m.registers) in
          rw e (record {
            unit = unit_stays own w copy (ticks_to c t) m.timing.unit h.unit;
            edges = put_all_of own (edges_to w c (offset m.registers) t m.timing.unit) m.timing.edges (unit_raises own w copy (tick_after c) (ticks_to c t) m.timing.unit h.unit) h.edges;
          })
      by false e = rw e h

  keeps_latched : (b : Bool) (m : Measuring) → KeepsTo own m.timing → KeepsTo own (latched b m).timing
  unfolding latched
  keeps_latched false m h = h
  keeps_latched true m h = h

  keeps_compared : (o : Option ℕ) (m : Measuring) → KeepsTo own m.timing → KeepsTo own (compared o m).timing
  unfolding compared
  keeps_compared None m h = h
  keeps_compared (Some x) m h = record { unit = h.unit; edges = h.edges }

  keeps_reset : (o : Option ℕ) (m : Measuring) → KeepsTo own m.timing → KeepsTo own (reset_by o m).timing
  unfolding reset_by
  keeps_reset None m h = h
  keeps_reset (Some rate) m h = record { unit = h.unit; edges = h.edges }

  -- SYNC1 comes with its bit
  second_by : (byte : ℕ) (r : Registers) → MayActivate own byte → IfSome (sync1_by byte r) (λ time. own Sync1 ≡ true)
  unfolding sync1_by
  second_by byte r may = by (has_bit 2 byte) refl (nat_lt 0 (sync1_time r)) (nat_lt (sync1_time r) (cycle_time r))
    where
      by : (b : Bool) → has_bit 2 byte ≡ b → (c d : Bool) → IfSome (if b && c && d then Some (sync1_time r) else None) (λ time. own Sync1 ≡ true)
      by true e true true = may.sync1 e
      by true e true false = tt
      by true e false d = tt
      by false e c d = tt

  keeps_activated : (o : Option ℕ) (m : Measuring) → IfSome o (MayActivate own) → KeepsTo own m.timing → KeepsTo own (activated o m).timing
  unfolding activated
  keeps_activated None m may h = h
  keeps_activated (Some byte) m may h = by (arms byte m.registers) refl
    where
      by : (b : Bool) → arms byte m.registers ≡ b → KeepsTo own (activated (Some byte) m).timing
      by true e = rw e (record { unit = record { sync0 = may.sync0; sync1 = mapped (own Sync1 ≡ true) _ (sync1_by byte m.registers) (second_by byte m.registers may) }; edges = tt })
      by false e = rw e (record { unit = tt; edges = h.edges })

  keeps_affected : (w : Written) (m : Measuring) → IfSome w.activation (MayActivate own) → KeepsTo own m.timing → KeepsTo own (affected w m).timing
  keeps_affected w m may h = keeps_activated w.activation _ may (keeps_reset w.rate _ (keeps_compared w.received _ (keeps_latched w.latched m h)))

  -- what keeps a measuring slave's timing so, keeps the slave
  keeps_on_of : (f : Measuring → Measuring) → ((m : Measuring) → KeepsTo own m.timing → KeepsTo own (f m).timing) → (s : Slave) (o : Option Timing) → s.timing ≡ o
      → SlaveKeepsTo own s → SlaveKeepsTo own (on_measuring_of f s o)
  keeps_on_of f keep s None e h = h
  keeps_on_of f keep s (Some t) e h =
      let has : KeepsTo own t = (rw e at h) in
      keep (record { registers = s.registers; timing = t }) has

  keeps_on : (f : Measuring → Measuring) → ((m : Measuring) → KeepsTo own m.timing → KeepsTo own (f m).timing) → (s : Slave) → SlaveKeepsTo own s → SlaveKeepsTo own (on_measuring f s)
  keeps_on f keep s h = keeps_on_of f keep s s.timing refl h

  pub advanced_keeps : (t : ℕ) (s : Slave) → SlaveKeepsTo own s → SlaveKeepsTo own (advanced_to t s)
  unfolding advanced_to
  advanced_keeps t s h = keeps_on (measuring_at t) (keeps_at t) s h

  keeps_wrote : (addr : ℕ) (bytes : List ℕ) (s : Slave) → IfSome (told s.registers.kind addr bytes).activation (MayActivate own) → SlaveKeepsTo own s → SlaveKeepsTo own (wrote addr bytes s)
  unfolding wrote
  keeps_wrote addr bytes s may h =
      let tells = told s.registers.kind addr bytes in
      keeps_on (affected tells) (λ m k. keeps_affected tells m may k) (record s { registers = written s.registers addr bytes }) h

  pub after_keeps : (s : Slave) (d : DatagramValue) → (writes (doing s d) ≡ true → IfSome (told s.registers.kind d.head.ado d.payload).activation (MayActivate own))
      → SlaveKeepsTo own s → SlaveKeepsTo own (slave_after s d)
  unfolding slave_after
  after_keeps s d may h = by (writes (doing s d)) refl
    where
      by : (b : Bool) → writes (doing s d) ≡ b → SlaveKeepsTo own (slave_after s d)
      by true e = rw e (keeps_wrote d.head.ado d.payload s (may e) h)
      by false e = rw e h

  -- ports that latch
  keeps_port : (sent : ℕ) (end : Option ℕ) (addr : ℕ) (o : Option ℕ) (s : Slave) → SlaveKeepsTo own s → SlaveKeepsTo own (port_taken sent end addr o s)
  unfolding port_taken
  keeps_port sent end addr None s h = h
  keeps_port sent end addr (Some at) s h = by (comes_by end at) refl
    where
      by : (b : Bool) → comes_by end at ≡ b → SlaveKeepsTo own (port_taken sent end addr (Some at) s)
      by true e = rw e (keeps_on (port_latched addr) (λ m k. k) (advanced_to (sent + at) s) (advanced_keeps (sent + at) s h))
      by false e = rw e h

  pub ports_keep : (b : Bool) (sent : ℕ) (end : Option ℕ) (s : Slave) → SlaveKeepsTo own s → SlaveKeepsTo own (when_latching b sent end s)
  unfolding ports_taken
  ports_keep false sent end s h = h
  ports_keep true sent end s h =
      keeps_port sent end 0x0908 s.visits.back2 _ (keeps_port sent end 0x0904 s.visits.back1 _ (keeps_port sent end 0x090C s.visits.back3 s h))
