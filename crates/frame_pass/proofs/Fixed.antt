-- What never changes of a slave, and of a segment.
use Rattle.std.proofs.Common.{◌≡◌, ℕ, zero, suc, List, [], ◌∷◌, map, Option, Some, None, Bool, true, false, nat_le, nat_lt, refl, sym, ap, ap₂, ◌∙◌}
use Rattle.std.specs.Prelude.{⊤, IfSome, option_map}
use Rattle.ecat_frame.specs.FrameGrammar.{DatagramValue, FrameValue}
use Rattle.osc_clock.specs.Ticks.{Oscillator}
use Rattle.esc_regs.specs.declared.answers.Written.{Written}
use Rattle.esc_regs.specs.declared.clock_kind.ClockKind.{ClockKind}
use Rattle.esc_regs.specs.RegisterWrite.{written, told}
use Rattle.esc_regs.proofs.Exported.{written_kind}
use Rattle.sync_units.specs.declared.edge.Edge.{Edge}
use Rattle.sync_units.specs.declared.edge.Signal.{Signal}
use Rattle.sync_units.specs.declared.edge.Signal.TheVariants.{Sync0, Sync1}
use Rattle.sync_units.specs.Interval.{edges_to}
use Rattle.sync_units.specs.KeptEdges.{Kept, put, put_all}
use Rattle.loss_list.specs.Losses.{loss_at}
use Rattle.loss_list.specs.declared.loss_row.Phase.{Phase}
use Rattle.loss_list.specs.declared.loss_row.Phase.TheVariants.{Commission, Drift}
use Rattle.latch_unit.specs.Stamp.{stamp_by}
use Rattle.frame_pass.specs.SlaveState.{Timing, Measuring, Slave, FixedPart, fixed_part, width_of, offset, on_measuring, on_measuring_of}
use Rattle.frame_pass.specs.Advancing.{advanced_to, measuring_at, ticked_to}
use Rattle.frame_pass.specs.WriteEffects.{latched, compared, reset_by, activated, affected, wrote, arms}
use Rattle.frame_pass.specs.FramePass.{port_latched, slave_passed, slaves_passed, datagrams_passed}
use Rattle.frame_pass.specs.SegmentState.{SegmentState, segment_step, leaves_at, carried, numbered, leaving, number_of, phase_of, finished, expected_at, expecting, changed_at}
use Rattle.frame_pass.specs.Invariants.{IsSameSegment}
use Rattle.frame_pass.proofs.Keeping.{Keeps, kept_passed}
use Rattle.frame_pass.proofs.History.{kind_of_stamped}

put_keeps : (e : Edge) (l : Kept) → (put e l).keep ≡ l.keep
put_keeps e l = by e.signal refl
  where
    by : (s : Signal) → e.signal ≡ s → (put e l).keep ≡ l.keep
    by Sync0 h = rw h refl
    by Sync1 h = rw h refl

all_keep : (es : List Edge) (l : Kept) → (put_all es l).keep ≡ l.keep
all_keep [] l = refl
all_keep (e ∷ es) l = all_keep es (put e l) ∙ put_keeps e l

-- a measuring slave with this fixed part
pub record IsFixed (kind : ClockKind) (osc : Oscillator) (keep : ℕ) (m : Measuring) : Type 0 where
  pub kind_is : m.registers.kind ≡ kind
  pub osc_is : m.timing.clock.osc ≡ osc
  pub keep_is : m.timing.edges.keep ≡ keep

fixed_latched : (kind : ClockKind) (osc : Oscillator) (keep : ℕ) (b : Bool) (m : Measuring) → IsFixed kind osc keep m → IsFixed kind osc keep (latched b m)
unfolding latched
fixed_latched kind osc keep true m h = record { kind_is = h.kind_is; osc_is = h.osc_is; keep_is = h.keep_is }
fixed_latched kind osc keep false m h = h

fixed_compared : (kind : ClockKind) (osc : Oscillator) (keep : ℕ) (o : Option ℕ) (m : Measuring) → IsFixed kind osc keep m → IsFixed kind osc keep (compared o m)
unfolding compared
fixed_compared kind osc keep (Some x) m h = record { kind_is = h.kind_is; osc_is = h.osc_is; keep_is = h.keep_is }
fixed_compared kind osc keep None m h = h

fixed_reset : (kind : ClockKind) (osc : Oscillator) (keep : ℕ) (o : Option ℕ) (m : Measuring) → IsFixed kind osc keep m → IsFixed kind osc keep (reset_by o m)
unfolding reset_by
fixed_reset kind osc keep (Some x) m h = record { kind_is = h.kind_is; osc_is = h.osc_is; keep_is = h.keep_is }
fixed_reset kind osc keep None m h = h

fixed_activated : (kind : ClockKind) (osc : Oscillator) (keep : ℕ) (o : Option ℕ) (m : Measuring) → IsFixed kind osc keep m → IsFixed kind osc keep (activated o m)
unfolding activated
fixed_activated kind osc keep None m h = h
fixed_activated kind osc keep (Some byte) m h = by (arms byte m.registers) refl
  where
    by : (b : Bool) → arms byte m.registers ≡ b → IsFixed kind osc keep (activated (Some byte) m)
    by true e = rw e (record { kind_is = h.kind_is; osc_is = h.osc_is; keep_is = h.keep_is })
    by false e = rw e (record { kind_is = h.kind_is; osc_is = h.osc_is; keep_is = h.keep_is })

fixed_affected : (kind : ClockKind) (osc : Oscillator) (keep : ℕ) (tells : Written) (m : Measuring) → IsFixed kind osc keep m → IsFixed kind osc keep (affected tells m)
fixed_affected kind osc keep tells m h =
    fixed_activated kind osc keep tells.activation _ (fixed_reset kind osc keep tells.rate _ (fixed_compared kind osc keep tells.received _ (fixed_latched kind osc keep tells.latched m h)))

fixed_time : (kind : ClockKind) (osc : Oscillator) (keep t : ℕ) (m : Measuring) → IsFixed kind osc keep m → IsFixed kind osc keep (measuring_at t m)
unfolding measuring_at ticked_to
fixed_time kind osc keep t m h = by (nat_le m.timing.clock.instant t) refl
  where
    by : (b : Bool) → nat_le m.timing.clock.instant t ≡ b → IsFixed kind osc keep (measuring_at t m)
    by true e = rw e (record {
      kind_is = kind_of_stamped (stamp_by (width_of m) m.timing.clock (offset m.registers) t m.timing.event) m.registers ∙ h.kind_is;
      osc_is = h.osc_is;
      keep_is = all_keep (edges_to (width_of m) m.timing.clock (offset m.registers) t m.timing.unit) m.timing.edges ∙ h.keep_is;
    })
    by false e = rw e h

-- what leaves the fixed part of a measuring slave leaves that of the slave
abbrev pub LeavesFixed : (Measuring → Measuring) → Type 0
LeavesFixed f = (kind : ClockKind) (osc : Oscillator) (keep : ℕ) (m : Measuring) → IsFixed kind osc keep m → IsFixed kind osc keep (f m)

fixed_path : (s t : Slave) → t.visits ≡ s.visits → t.registers.kind ≡ s.registers.kind → option_map (λ m. m.clock.osc) t.timing ≡ option_map (λ m. m.clock.osc) s.timing
    → option_map (λ m. m.edges.keep) t.timing ≡ option_map (λ m. m.edges.keep) s.timing → fixed_part t ≡ fixed_part s
fixed_path s t a b c d = cc

fixed_on_of : (f : Measuring → Measuring) → LeavesFixed f → (s : Slave) (o : Option Timing) → s.timing ≡ o → fixed_part (on_measuring_of f s o) ≡ fixed_part s
fixed_on_of f leaves s None e = refl
fixed_on_of f leaves s (Some t) e =
    let k = leaves s.registers.kind t.clock.osc t.edges.keep (record { registers = s.registers; timing = t }) (record { kind_is = refl; osc_is = refl; keep_is = refl }) in
    fixed_path s (on_measuring_of f s (Some t)) refl k.kind_is (ap (λ x. Some x) k.osc_is ∙ sym (ap (option_map (λ m. m.clock.osc)) e))
    (ap (λ x. Some x) k.keep_is ∙ sym (ap (option_map (λ m. m.edges.keep)) e))

fixed_on : (f : Measuring → Measuring) → LeavesFixed f → (s : Slave) → fixed_part (on_measuring f s) ≡ fixed_part s
fixed_on f leaves s = fixed_on_of f leaves s s.timing refl

fixed_wrote : (addr : ℕ) (bytes : List ℕ) (s : Slave) → fixed_part (wrote addr bytes s) ≡ fixed_part s
unfolding wrote
fixed_wrote addr bytes s =
    let r = written s.registers addr bytes in
    fixed_on (affected (told s.registers.kind addr bytes)) (λ kind osc keep m h. fixed_affected kind osc keep (told s.registers.kind addr bytes) m h) (record s { registers = r })
    ∙ fixed_path s (record s { registers = r }) refl (written_kind s.registers addr bytes) refl refl

pub fixed_advanced : (t : ℕ) (s : Slave) → fixed_part (advanced_to t s) ≡ fixed_part s
unfolding advanced_to
fixed_advanced t s = fixed_on (measuring_at t) (λ kind osc keep m h. fixed_time kind osc keep t m h) s

fixed_port : (addr : ℕ) (s : Slave) → fixed_part (on_measuring (port_latched addr) s) ≡ fixed_part s
fixed_port addr s = fixed_on (port_latched addr) (λ kind osc keep m h. record { kind_is = h.kind_is; osc_is = h.osc_is; keep_is = h.keep_is }) s

-- a slave with this fixed part
abbrev pub HasFixed : FixedPart → Slave → Type 0
HasFixed x s = fixed_part s ≡ x

keeps_fixed : (x : FixedPart) → Keeps (λ t. ⊤) (HasFixed x)
keeps_fixed x = record {
  advances = λ t s any h. fixed_advanced t s ∙ h;
  writes = λ addr bytes s h. fixed_wrote addr bytes s ∙ h;
  latches = λ addr s room h. fixed_port addr s ∙ h;
}

any_back : (o : Option ℕ) → IfSome o (λ at. ⊤)
any_back None = tt
any_back (Some at) = tt

pub fixed_passed : (sent : ℕ) (end : Option ℕ) (s : Slave) (ds : List DatagramValue) → fixed_part (slave_passed sent end s ds) ≡ fixed_part s
fixed_passed sent end s ds =
    kept_passed (λ t. ⊤) (HasFixed (fixed_part s)) (keeps_fixed (fixed_part s)) sent end
    (λ v h. record { arrive = tt; back3 = any_back v.visits.back3; back1 = any_back v.visits.back1; back2 = any_back v.visits.back2 }) s ds refl

fixed_all : (h sent : ℕ) (end : Option ℕ) (ss : List Slave) (ds : List DatagramValue) → map fixed_part (slaves_passed h sent end ss ds) ≡ map fixed_part ss
unfolding slaves_passed
fixed_all zero sent end ss ds = refl
fixed_all (suc h) sent end [] ds = refl
fixed_all (suc h) sent end (s ∷ ss) ds =
    ap₂ (λ (x : FixedPart) (xs : List FixedPart). x ∷ xs) (fixed_passed sent end s ds) (fixed_all h sent end ss (datagrams_passed sent s ds))

same_numbered : (phase : Phase) (s : SegmentState) (at : ℕ) → IsSameSegment s (numbered phase (leaving at s))
same_numbered Commission s at = record { slaves = refl; round_trip = refl; losses = refl }
same_numbered Drift s at = record { slaves = refl; round_trip = refl; losses = refl }

same_carried : (o : Option ℕ) (s t : SegmentState) (f : FrameValue) → IsSameSegment s t → IsSameSegment s (carried o t f).0
same_carried None s t f h = record { slaves = fixed_all _ _ _ t.slaves f.datagrams ∙ h.slaves; round_trip = h.round_trip; losses = h.losses }
same_carried (Some n) s t f h = record { slaves = fixed_all _ _ _ t.slaves f.datagrams ∙ h.slaves; round_trip = h.round_trip; losses = h.losses }

pub same_step : (s : SegmentState) (wait : ℕ) (f : FrameValue) → IsSameSegment s (segment_step s wait f).0
unfolding segment_step
same_step s wait f = by (nat_lt s.sent 1000000) refl
  where
    left : SegmentState
    left = numbered (phase_of f.datagrams) (leaving (leaves_at s wait) s)

    by : (b : Bool) → nat_lt s.sent 1000000 ≡ b → IsSameSegment s (segment_step s wait f).0
    by true e = rw e (same_carried (loss_at left.losses (phase_of f.datagrams) (number_of (phase_of f.datagrams) left)) s left f (same_numbered (phase_of f.datagrams) s (leaves_at s wait)))
    by false e = rw e (record { slaves = refl; round_trip = refl; losses = refl })

finished_all : (t : ℕ) (ss : List Slave) → map fixed_part (map (advanced_to t) ss) ≡ map fixed_part ss
finished_all t [] = refl
finished_all t (s ∷ ss) = ap₂ (λ (x : FixedPart) (xs : List FixedPart). x ∷ xs) (fixed_advanced t s) (finished_all t ss)

pub same_finished : (t : ℕ) (s : SegmentState) → IsSameSegment s (finished t s)
unfolding finished
same_finished t s = record { slaves = finished_all t s.slaves; round_trip = refl; losses = refl }

fixed_expecting : (t : ℕ) (s : Slave) → fixed_part (expecting t s) ≡ fixed_part s
fixed_expecting t s = by s.timing refl
  where
    by : (o : Option Timing) → s.timing ≡ o → fixed_part (expecting t s) ≡ fixed_part s
    by None e = rw e refl
    by (Some m) e = rw e refl

expected_all : (position t : ℕ) (ss : List Slave) → map fixed_part (changed_at position (expecting t) ss) ≡ map fixed_part ss
unfolding changed_at
expected_all position t [] = refl
expected_all zero t (s ∷ ss) = ap (λ (x : FixedPart). x ∷ map fixed_part ss) (fixed_expecting t s)
expected_all (suc position) t (s ∷ ss) = ap (λ (xs : List FixedPart). fixed_part s ∷ xs) (expected_all position t ss)

pub same_expected : (position t : ℕ) (s : SegmentState) → IsSameSegment s (expected_at position t s)
unfolding expected_at
same_expected position t s = record { slaves = expected_all position t s.slaves; round_trip = refl; losses = refl }
