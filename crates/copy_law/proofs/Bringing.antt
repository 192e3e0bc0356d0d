-- What the drift frames of a run bring.
use Rattle.std.proofs.Common.{◌≡◌, ◌≢◌, ℕ, ◌+◌, ◌%◌, ◌^◌, ◌<◌, ◌≤◌, ◌==◌, Bool, true, false, List, [], ◌∷◌, length, Option, Some, None, refl, sym, ap, ap₂, subst, ◌∙◌, arith}
use Rattle.std.specs.Prelude.{◌&&◌, IfSome, if◌then◌else◌, is_some, nat_lt, not, slice_get}
use Rattle.std.proofs.lemmas.Bool.{eq-eqb, eqb-true}
use Rattle.std.proofs.lemmas.Bool.Decides.{nat_tests}
use Rattle.copy_law.specs.DriftFrames.{IsDriftFrame, brought, sent_at}
use Rattle.copy_law.specs.Receipts.{IsReference, receipt, receives, time_of}
use Rattle.lost_step.specs.LostStep.{comes_to}
use Rattle.copy_law.proofs.AtSlaves.{clock_receives, other_rests, received_at, reference_rests, word_at}
use Rattle.copy_law.proofs.First.{behind_reference, reference_clock}
use Rattle.copy_law.proofs.States.{clock_there, drifting, leaves, orderly, reaches}
use Rattle.frame_pass.proofs.Exported.{sizes_of, sound_at}
use Rattle.ecat_link.specs.Exchanges.{Exchange}
use Rattle.frame_pass.specs.Advancing.{measuring_at}
use Rattle.frame_pass.specs.ClockHistory.{events_passed}
use Rattle.frame_pass.specs.FramePass.{datagrams_behind}
use Rattle.frame_pass.specs.LiveRegisters.{system_time}
use Rattle.frame_pass.specs.Reach.{reach_of, reached_by}
use Rattle.frame_pass.specs.SegmentState.{SegmentState, leaves_at}
use Rattle.frame_pass.specs.SlaveState.{Slave, Timing}
use Rattle.esc_regs.specs.RegisterFile.{Registers}
use Rattle.honest_slaves.specs.FileSlaves.{kind_at, status_at}
use Rattle.local_clock.specs.Reading.{Happening, received}
use Rattle.honest_slaves.proofs.Exported.{low_where}
use Rattle.run_counts.proofs.Exported.{one_drift_comes}
use Rattle.segment_file.specs.Legal.{IsLegal}
use Rattle.segment_file.specs.Segment.{SegmentValue}
use Rattle.loss_list.specs.Losses.{loss_at}
use Rattle.esc_regs.specs.Kinds.{has_clock}
use Rattle.loss_list.specs.declared.loss_row.Phase.TheVariants.{Drift}
use Rattle.wrap_time.specs.WordDifference.{word_difference}

-- what a frame brings, by whether it comes, to a clock, and to one other than the reference
chosen : {X : Type 0} (clock own comes : Bool) (brings : List X) (one : X) → (comes ≡ true → clock ≡ false → brings ≡ []) → (comes ≡ true → own ≡ true → brings ≡ [])
    → (comes ≡ true → clock ≡ true → own ≡ false → brings ≡ one ∷ []) → (if comes then brings else []) ≡ (if clock && (not own && comes) then one ∷ [] else [])
chosen false own false brings one other reference clock = refl
chosen true true false brings one other reference clock = refl
chosen true false false brings one other reference clock = refl
chosen false own true brings one other reference clock = other refl refl
chosen true true true brings one other reference clock = reference refl refl
chosen true false true brings one other reference clock = clock refl refl refl

-- a frame that reaches the slaves so far comes to a position
comes_by : (o : Option ℕ) (ss : List Slave) (p : ℕ) → p < length ss → nat_lt p (reached_by o ss) ≡ comes_to o p
comes_by None ss p low = let e : nat_lt p (length ss) ≡ true = grind (arith, nat_tests, low) in e
comes_by (Some after) ss p low = refl

all_true : (clock own comes : Bool) → clock ≡ true → own ≡ false → comes ≡ true → (clock && (not own && comes)) ≡ true
all_true clock own comes x y z = rw (x, y, z) refl

none_lost : (o : Option ℕ) → is_some o ≡ false → o ≡ None
none_lost None e = refl
none_lost (Some after) e = absurd (let x = e in cc)

-- the receipt of a clock, by what it and the reference count
time_is : (r : Registers) (at : ℕ) (o : Option Timing) (m : Timing) → o ≡ Some m → time_of r at o ≡ system_time (measuring_at at (record { registers = r; timing = m }))
time_is r at o m e = ap (time_of r at) e

abbrev received_then : ℕ → ℕ → ℕ → Happening
received_then instant x y = record { instant = instant; event = received (word_difference 32 (x % 2 ^ 32) (y % 2 ^ 32)) }

receipt_is : (sent : ℕ) (v w : Slave) (m n : Timing) → v.timing ≡ Some m → w.timing ≡ Some n → received_at sent v m (word_at sent w n) ≡ receipt sent v w
receipt_is sent v w m n is other =
    ap₂ (received_then (sent + v.visits.arrive)) (sym (time_is v.registers (sent + v.visits.arrive) v.timing m is)) (sym (time_is w.registers (sent + w.visits.arrive) w.timing n other))

some_same : {X : Type 0} {x y : X} → Some x ≡ Some y → x ≡ y
some_same e = cc

-- a clock's time at a limit
time_by : (limit : ℕ) (o : Option Timing) (m : Timing) → o ≡ Some m → IfSome o (λ k. k.clock.instant ≤ limit) → m.clock.instant ≤ limit
time_by limit o m is h = subst (λ (x : Option Timing). IfSome x (λ k. k.clock.instant ≤ limit)) is h

module _ (s : SegmentValue) (legal : IsLegal s) (k : ℕ) (t : SegmentState) (e : Exchange) (f : IsDriftFrame s k t e) (r : ℕ) (reference : IsReference s r) (w : Slave) (at_r : slice_get t.slaves r ≡ Some w) where
  abbrev sent : ℕ
  sent = leaves_at t e.wait_ns

  abbrev events : ℕ → Slave → List Happening
  events p v = events_passed sent v (datagrams_behind p sent t.slaves e.sent.datagrams)

  clock_brought : (p : ℕ) (v : Slave) → r < p → has_clock (kind_at s p) ≡ true → slice_get t.slaves p ≡ Some v → events p v ≡ receipt sent v w ∷ []
  clock_brought p v low clock is =
      let o = orderly s legal k t e f in
      let own = reference_clock s legal r reference in
      let m = clock_there s legal k t e f p v is clock in
      let n = clock_there s legal k t e f r w at_r own in
      let time = time_by t.free v.timing m.0 m.1 (sound_at t.round_trip t.free t.slaves p v o.sound is).time in
      let late : t.free ≤ sent = omega arith in
      clock_receives (kind_at s) (status_at s) _ sent t.slaves o.are (sizes_of t.round_trip t.free t.slaves o.sound) r e.sent.datagrams (drifting s legal k t e f r reference) p v w m.0 n.0 low clock
      own is m.1 (omega (arith, time, late)) at_r n.1
      ∙ ap (λ (h : Happening). h ∷ []) (receipt_is sent v w m.0 n.0 m.1 n.1)

  reference_brought : events r w ≡ []
  reference_brought =
      let o = orderly s legal k t e f in
      reference_rests (kind_at s) (status_at s) _ sent t.slaves o.are (sizes_of t.round_trip t.free t.slaves o.sound) r e.sent.datagrams (drifting s legal k t e f r reference) w at_r

  other_brought : (p : ℕ) (v : Slave) → has_clock (kind_at s p) ≡ false → slice_get t.slaves p ≡ Some v → events p v ≡ []
  other_brought p v clockless is =
      let o = orderly s legal k t e f in
      other_rests (kind_at s) (status_at s) _ sent t.slaves o.are (sizes_of t.round_trip t.free t.slaves o.sound) r e.sent.datagrams (drifting s legal k t e f r reference) p v clockless is

  own_brought : (p : ℕ) (v : Slave) → p ≡ r → slice_get t.slaves p ≡ Some v → events p v ≡ []
  own_brought p v same is =
      let there : v ≡ w = some_same (sym is ∙ ap (λ (q : ℕ). slice_get t.slaves q) same ∙ at_r) in
      ap₂ events same there ∙ reference_brought

  pub frame_brings : (p : ℕ) (v : Slave) → slice_get t.slaves p ≡ Some v → brought t e p v ≡ (if receives s r k p then receipt (sent_at s f.first k) v w ∷ [] else [])
  frame_brings p v is =
      let o = orderly s legal k t e f in
      let within = low_where t.slaves p v is in
      let many = o.are.many in
      let comes : nat_lt p (reach_of t e.sent) ≡ comes_to (loss_at s.losses Drift k) p =
      ap (λ (n : ℕ). nat_lt p n) (reaches s legal k t e f) ∙ comes_by (loss_at s.losses Drift k) t.slaves p within in
      ap (λ (b : Bool). if b then events p v else []) comes
      ∙ chosen (has_clock (kind_at s p)) (p == r) (comes_to (loss_at s.losses Drift k) p) (events p v) (receipt sent v w)
      (λ come clockless. other_brought p v clockless is) (λ come own. own_brought p v (eqb-true p r own) is)
      (λ come clock other. clock_brought p v
      (behind_reference s legal r reference p (omega (arith, within, many)) clock (λ same. absurd (let x : true ≡ false = sym (eq-eqb p r same) ∙ other in cc))) clock is)
      ∙ ap (λ (n : ℕ). if receives s r k p then receipt n v w ∷ [] else []) (leaves s legal k t e f)

-- of so many drift frames in a row one is not lost
pub one_received : (s : SegmentValue) → IsLegal s → (first p r : ℕ) → has_clock (kind_at s p) ≡ true → p ≢ r → (k : ℕ) × (first ≤ k) × (k ≤ first + s.head.loss_run) × (receives s r k p ≡ true)
one_received s legal first p r clock other =
    let c = one_drift_comes s legal first in
    let none = none_lost (loss_at s.losses Drift c.0) c.3 in
    let own : (p == r) ≡ false = grind (arith, nat_tests, other) in
    (c.0, c.1, c.2, all_true _ _ _ clock own (ap (λ (o : Option ℕ). comes_to o p) none))
