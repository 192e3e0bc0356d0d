-- Time, writes and port latches keep the edges of a slave numbered.
use Rattle.std.proofs.Common.{◌≡◌, ℕ, ◌-◌, ◌^◌, ◌≤◌, List, [], Option, Some, None, Bool, true, false, nat_le, refl, arith}
use Rattle.std.specs.Prelude.{IfSome, ⊤}
use Rattle.std.specs.List.{range_with_len}
use Rattle.local_clock.specs.Reading.{Clock, ticks_to}
use Rattle.local_clock.specs.FirstReaching.{tick_after}
use Rattle.sync_units.specs.ClockCopy.{copy_after}
use Rattle.sync_units.specs.SyncRule.{Armed, armed_by}
use Rattle.sync_units.specs.Interval.{unit_at, edges_to}
use Rattle.sync_units.specs.KeptEdges.{Kept, put_all, empty_list}
use Rattle.esc_regs.specs.RegisterWrite.{written, told}
use Rattle.esc_regs.specs.declared.answers.Written.{Written}
use Rattle.frame_pass.specs.SlaveState.{Timing, Measuring, Slave, on_measuring, on_measuring_of, width_of, offset, start_time, cycle_time}
use Rattle.frame_pass.specs.Advancing.{advanced_to, measuring_at, ticked_to}
use Rattle.frame_pass.specs.WriteEffects.{latched, compared, reset_by, activated, affected, wrote, arms, sync1_by}
use Rattle.frame_pass.specs.FramePass.{port_latched}
use Rattle.frame_pass.proofs.Exported.{Keeps}
use Rattle.segment_start.specs.Numbered.{AreNumbered, IsArmedBy, HasNumbers, IsNumberedSlave}
use Rattle.segment_start.proofs.Numbering.{going_ticks}

-- a unit and its edges over an interval
numbered_to : (w : ℕ) (c : Clock) (offset t : ℕ) (u : Option Armed) (l : Kept) → AreNumbered l → IfSome u (IsArmedBy l)
    → AreNumbered (put_all (edges_to w c offset t u) l) × IfSome (unit_at w c offset t u) (IsArmedBy (put_all (edges_to w c offset t u) l))
numbered_to w c offset t None l edges unit = (edges, tt)
numbered_to w c offset t (Some a) l edges unit =
    let g = going_ticks w (copy_after w c offset) (tick_after c) (ticks_to c t) a l (record { edges = edges; armed = unit }) in
    (g.edges, g.armed)

has_at : (t : ℕ) (m : Measuring) → HasNumbers m.timing → HasNumbers (measuring_at t m).timing
unfolding measuring_at ticked_to
has_at t m h = by (nat_le m.timing.clock.instant t) refl
  where
    by : (b : Bool) → nat_le m.timing.clock.instant t ≡ b → HasNumbers (measuring_at t m).timing
    by true e =
        let n = numbered_to (width_of m) m.timing.clock (offset m.registers) t m.timing.unit m.timing.edges h.edges h.unit in
        rw e (record { edges = n.0; unit = n.1 })
    by false e = rw e h

has_latched : (b : Bool) (m : Measuring) → HasNumbers m.timing → HasNumbers (latched b m).timing
unfolding latched
has_latched false m h = h
has_latched true m h = h

has_compared : (o : Option ℕ) (m : Measuring) → HasNumbers m.timing → HasNumbers (compared o m).timing
unfolding compared
has_compared None m h = h
has_compared (Some x) m h = record { edges = h.edges; unit = h.unit }

has_reset : (o : Option ℕ) (m : Measuring) → HasNumbers m.timing → HasNumbers (reset_by o m).timing
unfolding reset_by
has_reset None m h = h
has_reset (Some g) m h = record { edges = h.edges; unit = h.unit }

-- no edges are numbered
pub none_kept : (keep : ℕ) → keep ≤ 2 ^ 32 → AreNumbered (empty_list keep)
none_kept keep few = record {
  sync0 = record { indices_are = nothing keep; room_is = omega arith };
  sync1 = record { indices_are = nothing keep; room_is = omega arith };
  few = few;
}
  where
    nothing : (keep : ℕ) → [] ≡ range_with_len 0 (keep - keep)
    nothing keep = let e : keep - keep ≡ 0 = omega arith in rw e refl

-- a unit that was armed now is due at edge 0 of its signals
armed_first : (w start cycle keep : ℕ) (o : Option ℕ) → IsArmedBy (empty_list keep) (armed_by w start cycle o)
armed_first w start cycle keep None = record { sync0 = record { room_is = omega arith; small = omega arith }; sync1 = tt }
armed_first w start cycle keep (Some time) = record {
  sync0 = record { room_is = omega arith; small = omega arith };
  sync1 = record { room_is = omega arith; small = omega arith };
}

has_activated : (o : Option ℕ) (m : Measuring) → HasNumbers m.timing → HasNumbers (activated o m).timing
unfolding activated
has_activated None m h = h
has_activated (Some byte) m h = by (arms byte m.registers) refl
  where
    by : (b : Bool) → arms byte m.registers ≡ b → HasNumbers (activated (Some byte) m).timing
    by true e = rw e (record {
      edges = none_kept m.timing.edges.keep h.edges.few;
      unit = armed_first (width_of m) (start_time m.registers) (cycle_time m.registers) m.timing.edges.keep (sync1_by byte m.registers);
    })
    by false e = rw e (record { edges = h.edges; unit = tt })

has_affected : (w : Written) (m : Measuring) → HasNumbers m.timing → HasNumbers (affected w m).timing
has_affected w m h = has_activated w.activation _ (has_reset w.rate _ (has_compared w.received _ (has_latched w.latched m h)))

-- what keeps a measuring slave's edges numbered keeps the slave's
numbered_on_of : (f : Measuring → Measuring) → ((m : Measuring) → HasNumbers m.timing → HasNumbers (f m).timing) → (s : Slave) (o : Option Timing) → s.timing ≡ o
    → IsNumberedSlave s → IsNumberedSlave (on_measuring_of f s o)
numbered_on_of f keep s None e h = h
numbered_on_of f keep s (Some t) e h =
    let has : HasNumbers t = (rw e at h) in
    keep (record { registers = s.registers; timing = t }) has

numbered_on : (f : Measuring → Measuring) → ((m : Measuring) → HasNumbers m.timing → HasNumbers (f m).timing) → (s : Slave) → IsNumberedSlave s → IsNumberedSlave (on_measuring f s)
numbered_on f keep s h = numbered_on_of f keep s s.timing refl h

pub numbered_at : (t : ℕ) (s : Slave) → IsNumberedSlave s → IsNumberedSlave (advanced_to t s)
unfolding advanced_to
numbered_at t s h = numbered_on (measuring_at t) (has_at t) s h

numbered_wrote : (addr : ℕ) (bytes : List ℕ) (s : Slave) → IsNumberedSlave s → IsNumberedSlave (wrote addr bytes s)
unfolding wrote
numbered_wrote addr bytes s h =
    numbered_on (affected (told s.registers.kind addr bytes)) (has_affected (told s.registers.kind addr bytes)) (record s { registers = written s.registers addr bytes }) h

pub keeps_numbers : Keeps (λ t. ⊤) IsNumberedSlave
keeps_numbers = record {
  advances = λ t s any h. numbered_at t s h;
  writes = λ addr bytes s h. numbered_wrote addr bytes s h;
  latches = λ addr s room h. numbered_on (port_latched addr) (λ m k. k) s h;
}
