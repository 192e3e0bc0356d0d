-- A slave stays sound: its registers keep their size, and its present time is not past a time.
use Rattle.std.proofs.Common.{◌≡◌, ℕ, ◌+◌, ◌%◌, ◌^◌, ◌≤◌, List, [], ◌∷◌, length, map, Option, Some, None, Bool, true, false, max, nat_le, nat_lt, refl, arith}
use Rattle.std.specs.Prelude.{IfSome}
use Rattle.std.specs.List.{AllByRecursion}
use Rattle.ecat_frame.specs.FrameGrammar.{DatagramValue, FrameValue}
use Rattle.esc_regs.specs.declared.answers.Written.{Written}
use Rattle.esc_regs.specs.RegisterWrite.{written, told}
use Rattle.loss_list.specs.Losses.{loss_at}
use Rattle.loss_list.specs.declared.loss_row.Phase.{Phase}
use Rattle.loss_list.specs.declared.loss_row.Phase.TheVariants.{Commission, Drift}
use Rattle.frame_pass.specs.SlaveState.{Timing, Measuring, Slave, on_measuring, on_measuring_of, holding, width_of, offset}
use Rattle.latch_unit.specs.Stamp.{stamp_by}
use Rattle.frame_pass.specs.Advancing.{advanced_to, measuring_at, ticked_to}
use Rattle.frame_pass.specs.WriteEffects.{latched, compared, reset_by, activated, affected, wrote, arms}
use Rattle.frame_pass.specs.FramePass.{port_latched, slaves_passed, end_of}
use Rattle.frame_pass.specs.SegmentState.{SegmentState, segment_step, leaves_at, carried, carried_of, numbered, leaving, number_of, phase_of, finished}
use Rattle.frame_pass.specs.Invariants.{IsSound, IsSoundSegment}
use Rattle.frame_pass.proofs.Sizes.{HasSize, size_written, size_holding, size_stamped}
use Rattle.frame_pass.proofs.Keeping.{Keeps, IsVisited, kept_by_all}

-- a measuring slave with 4096 bytes of registers whose clock is not past a time
pub record IsFit (limit : ℕ) (m : Measuring) : Type 0 where
  pub size : HasSize m.registers
  pub time : m.timing.clock.instant ≤ limit

pub fit_latched : (limit : ℕ) (b : Bool) (m : Measuring) → IsFit limit m → IsFit limit (latched b m)
unfolding latched
fit_latched limit false m h = h
fit_latched limit true m h = record {
  size = size_holding 8 0x0918 m.timing.clock.reading (holding 4 0x0900 (m.timing.clock.reading % 2 ^ 32) m.registers) (omega arith)
      (size_holding 4 0x0900 (m.timing.clock.reading % 2 ^ 32) m.registers (omega arith) h.size);
  time = h.time;
}

pub fit_compared : (limit : ℕ) (o : Option ℕ) (m : Measuring) → IsFit limit m → IsFit limit (compared o m)
unfolding compared
fit_compared limit None m h = h
fit_compared limit (Some x) m h = record { size = size_holding 4 0x092C _ m.registers (omega arith) h.size; time = h.time }

pub fit_reset : (limit : ℕ) (o : Option ℕ) (m : Measuring) → IsFit limit m → IsFit limit (reset_by o m)
unfolding reset_by
fit_reset limit None m h = h
fit_reset limit (Some g) m h = record { size = size_holding 4 0x092C 0 m.registers (omega arith) h.size; time = h.time }

fit_activated : (limit : ℕ) (o : Option ℕ) (m : Measuring) → IsFit limit m → IsFit limit (activated o m)
unfolding activated
fit_activated limit None m h = h
fit_activated limit (Some byte) m h = by (arms byte m.registers) refl
  where
    by : (b : Bool) → arms byte m.registers ≡ b → IsFit limit (activated (Some byte) m)
    by true e = rw e (record { size = h.size; time = h.time })
    by false e = rw e (record { size = h.size; time = h.time })

fit_affected : (limit : ℕ) (w : Written) (m : Measuring) → IsFit limit m → IsFit limit (affected w m)
fit_affected limit w m h =
    fit_activated limit w.activation _ (fit_reset limit w.rate _ (fit_compared limit w.received _ (fit_latched limit w.latched m h)))

-- what keeps a measuring slave fit keeps the slave sound
sound_on_of : (trip limit : ℕ) (f : Measuring → Measuring) → ((m : Measuring) → IsFit limit m → IsFit limit (f m)) → (s : Slave) (o : Option Timing) → s.timing ≡ o
    → IsSound trip limit s → IsSound trip limit (on_measuring_of f s o)
sound_on_of trip limit f keep s None e h = h
sound_on_of trip limit f keep s (Some t) e h =
    let stands : t.clock.instant ≤ limit = (rw e at h.time) in
    let k = keep (record { registers = s.registers; timing = t }) (record { size = h.size; time = stands }) in
    record { size = k.size; time = k.time; visits = h.visits }

sound_on : (trip limit : ℕ) (f : Measuring → Measuring) → ((m : Measuring) → IsFit limit m → IsFit limit (f m)) → (s : Slave)
    → IsSound trip limit s → IsSound trip limit (on_measuring f s)
sound_on trip limit f keep s h = sound_on_of trip limit f keep s s.timing refl h

sound_wrote : (trip limit addr : ℕ) (bytes : List ℕ) (s : Slave) → IsSound trip limit s → IsSound trip limit (wrote addr bytes s)
unfolding wrote
sound_wrote trip limit addr bytes s h =
    sound_on trip limit (affected (told s.registers.kind addr bytes)) (λ m k. fit_affected limit (told s.registers.kind addr bytes) m k)
    (record s { registers = written s.registers addr bytes })
    (record { size = size_written s.registers addr bytes h.size; time = h.time; visits = h.visits })

sound_port : (trip limit addr : ℕ) (s : Slave) → addr + 4 ≤ 4096 → IsSound trip limit s → IsSound trip limit (on_measuring (port_latched addr) s)
sound_port trip limit addr s room h =
    sound_on trip limit (port_latched addr) (λ m k. record { size = size_holding 4 addr (m.timing.clock.reading % 2 ^ 32) m.registers room k.size; time = k.time }) s h

fit_at : (limit t : ℕ) (m : Measuring) → t ≤ limit → IsFit limit m → IsFit limit (measuring_at t m)
unfolding measuring_at ticked_to
fit_at limit t m low h = by (nat_le m.timing.clock.instant t) refl
  where
    by : (b : Bool) → nat_le m.timing.clock.instant t ≡ b → IsFit limit (measuring_at t m)
    by true e = rw e (record {
      size = size_stamped (stamp_by (width_of m) m.timing.clock (offset m.registers) t m.timing.event) m.registers h.size;
      time = low;
    })
    by false e = rw e h

pub sound_at : (trip limit t : ℕ) (s : Slave) → t ≤ limit → IsSound trip limit s → IsSound trip limit (advanced_to t s)
unfolding advanced_to
sound_at trip limit t s low h = sound_on trip limit (measuring_at t) (λ m k. fit_at limit t m low k) s h

pub keeps_sound : (trip limit : ℕ) → Keeps (λ t. t ≤ limit) (IsSound trip limit)
keeps_sound trip limit = record {
  advances = λ t s low h. sound_at trip limit t s low h;
  writes = λ addr bytes s h. sound_wrote trip limit addr bytes s h;
  latches = λ addr s room h. sound_port trip limit addr s room h;
}

back_within : (sent trip limit : ℕ) (o : Option ℕ) → sent + trip ≤ limit → IfSome o (λ at. at ≤ trip) → IfSome o (λ at. sent + at ≤ limit)
back_within sent trip limit None low u = tt
back_within sent trip limit (Some at) low u = omega (arith, low, u)

pub visited : (sent trip limit : ℕ) → sent + trip ≤ limit → (s : Slave) → IsSound trip limit s → IsVisited (λ t. t ≤ limit) sent s.visits
visited sent trip limit low s h = record {
  arrive = let a = h.visits.arrive in omega (arith, low, a);
  back3 = back_within sent trip limit s.visits.back3 low h.visits.back3;
  back1 = back_within sent trip limit s.visits.back1 low h.visits.back1;
  back2 = back_within sent trip limit s.visits.back2 low h.visits.back2;
}

by_later : (limit more : ℕ) (o : Option Timing) → limit ≤ more → IfSome o (λ m. m.clock.instant ≤ limit) → IfSome o (λ m. m.clock.instant ≤ more)
by_later limit more None low h = tt
by_later limit more (Some m) low h = omega (arith, low, h)

-- the time may be a later one
later : (trip limit more : ℕ) (ss : List Slave) → limit ≤ more → AllByRecursion (IsSound trip limit) ss → AllByRecursion (IsSound trip more) ss
later trip limit more [] low a = a
later trip limit more (s ∷ ss) low a =
    (record { size = a.0.size; time = by_later limit more s.timing low a.0.time; visits = a.0.visits }, later trip limit more ss low a.1)

pub sound_all : (sent trip limit : ℕ) (end : Option ℕ) (h : ℕ) (ss : List Slave) (ds : List DatagramValue) → sent + trip ≤ limit
    → AllByRecursion (IsSound trip limit) ss → AllByRecursion (IsSound trip limit) (slaves_passed h sent end ss ds)
sound_all sent trip limit end h ss ds low a =
    kept_by_all (λ t. t ≤ limit) (IsSound trip limit) (keeps_sound trip limit) sent end (visited sent trip limit low) h ss ds a

timely_carried : (o : Option ℕ) (s : SegmentState) (f : FrameValue) → s.last + s.round_trip ≤ s.free → IsSoundSegment s → IsSoundSegment (carried o s f).0
timely_carried None s f low h = sound_all s.last s.round_trip s.free (end_of (length s.slaves) s.slaves) (length s.slaves) s.slaves f.datagrams low h
timely_carried (Some n) s f low h = sound_all s.last s.round_trip s.free (end_of n s.slaves) n s.slaves f.datagrams low h

-- a frame that leaves at this time keeps the slaves before its return
pub timely_leaving : (s : SegmentState) (at : ℕ) → s.free ≤ at → IsSoundSegment s → IsSoundSegment (leaving at s)
timely_leaving s at low h = later s.round_trip s.free (at + s.round_trip) s.slaves (omega (arith, low)) h

-- a segment from which a frame left, before it goes through the slaves
pub record IsLeft (s : SegmentState) (at : ℕ) (t : SegmentState) : Type 0 where
  pub slaves : t.slaves ≡ s.slaves
  pub round_trip : t.round_trip ≡ s.round_trip
  pub sent : t.sent ≡ s.sent + 1
  pub last : t.last ≡ at
  pub free : t.free ≡ at + s.round_trip

pub left_by : (phase : Phase) (s : SegmentState) (at : ℕ) → IsLeft s at (numbered phase (leaving at s))
left_by Commission s at = record { slaves = refl; round_trip = refl; sent = refl; last = refl; free = refl }
left_by Drift s at = record { slaves = refl; round_trip = refl; sent = refl; last = refl; free = refl }

pub timely_numbered : (phase : Phase) (s : SegmentState) → IsSoundSegment s → IsSoundSegment (numbered phase s)
timely_numbered Commission s h = h
timely_numbered Drift s h = h

pub returns_by : (phase : Phase) (s : SegmentState) (at : ℕ) → (numbered phase (leaving at s)).last + (numbered phase (leaving at s)).round_trip ≤ (numbered phase (leaving at s)).free
returns_by Commission s at = omega arith
returns_by Drift s at = omega arith

pub timely_carried_of : (phase : Phase) (s : SegmentState) (at : ℕ) (f : FrameValue) → s.free ≤ at → IsSoundSegment s
    → IsSoundSegment (carried_of phase (numbered phase (leaving at s)) f).0
timely_carried_of phase s at f low h =
    let t = numbered phase (leaving at s) in
    timely_carried (loss_at t.losses phase (number_of phase t)) t f (returns_by phase s at) (timely_numbered phase (leaving at s) (timely_leaving s at low h))

pub timely_step : (s : SegmentState) (wait : ℕ) (f : FrameValue) → IsSoundSegment s → IsSoundSegment (segment_step s wait f).0
unfolding segment_step
timely_step s wait f h = by (nat_lt s.sent 1000000) refl
  where
    by : (b : Bool) → nat_lt s.sent 1000000 ≡ b → IsSoundSegment (segment_step s wait f).0
    by true e = rw e (timely_carried_of (phase_of f.datagrams) s (leaves_at s wait) f (omega arith) h)
    by false e = rw e h

finished_all : (trip limit t : ℕ) (ss : List Slave) → t ≤ limit → AllByRecursion (IsSound trip limit) ss → AllByRecursion (IsSound trip limit) (map (advanced_to t) ss)
finished_all trip limit t [] low a = a
finished_all trip limit t (s ∷ ss) low a = (sound_at trip limit t s low a.0, finished_all trip limit t ss low a.1)

pub timely_finished : (s : SegmentState) (t : ℕ) → IsSoundSegment s → IsSoundSegment (finished t s)
unfolding finished
timely_finished s t h =
    finished_all s.round_trip (max t s.free) t s.slaves (omega arith) (later s.round_trip s.free (max t s.free) s.slaves (omega arith) h)
