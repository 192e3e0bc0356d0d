-- What a frame of commissioning leaves of all slaves: their clocks rest, and their receive times are those of the Latch that
-- came back last.
use Rattle.std.proofs.Common.{◌≡◌, ℕ, ◌<◌, List, [], ◌∷◌, length, Option, Some, None, true, refl, sym, ap, subst, ◌∙◌, arith}
use Rattle.std.specs.Prelude.{IfSome, not, slice_get}
use Rattle.std.specs.Option.{option_map}
use Rattle.ecat_frame.specs.FrameGrammar.{FrameValue}
use Rattle.segment_file.specs.Legal.{IsLegal}
use Rattle.segment_file.specs.Segment.{SegmentValue}
use Rattle.frame_pass.specs.SlaveState.{Slave, Timing}
use Rattle.frame_pass.specs.FramePass.{are_latching, at_arrival, datagrams_behind, end_of, slave_passed}
use Rattle.frame_pass.specs.Invariants.{IsSoundSegment}
use Rattle.frame_pass.specs.Reach.{reach_of}
use Rattle.frame_pass.specs.SegmentState.{SegmentState, leaves_at, segment_step}
use Rattle.frame_pass.proofs.Exported.{fixed_passed, never_latching, sizes_of, sound_at}
use Rattle.master_script.specs.Frames.{latch_datagrams}
use Rattle.honest_slaves.proofs.Exported.{latch_for_measuring, CameBack, low_where}
use Rattle.honest_slaves.specs.FileSlaves.{kind_at}
use Rattle.delay_law.specs.Resting.{AllRest, Rests, row_there}
use Rattle.delay_law.specs.HeldTimes.{AllHold, HoldsTimes}
use Rattle.delay_law.specs.Far.{AreFar}
use Rattle.delay_law.specs.OfFile.{IsFixed}
use Rattle.delay_law.proofs.Far.{far_behind, far_left}
use Rattle.delay_law.proofs.LatchFrames.{latch_frame}
use Rattle.delay_law.proofs.Passing.{Resting, holds_latched, holds_passed, rests_passed}
use Rattle.delay_law.proofs.Places.{keeps_there, kind_there, measures_there, none_stays, turn_there}
use Rattle.delay_law.proofs.Stepping.{AtEach, early_at, each_after}

-- where there is no clock, nothing is said
none_says : (P : Timing → Type 0) (o : Option Timing) → o ≡ None → IfSome o P
none_says P None e = tt
none_says P (Some m) e = absurd (let z = e in cc)

said : (P : Timing → Type 0) (o : Option Timing) (m : Timing) → o ≡ Some m → IfSome o P → P m
said P o m e h = subst (λ (x : Option Timing). IfSome x P) e h

always : (A : Type 0) (o : Option Timing) → A → IfSome o (λ m. A)
always A None h = tt
always A (Some m) h = h

-- no slave stands at the end
none_past : (ss : List Slave) → slice_get ss (length ss) ≡ None
none_past [] = refl
none_past (s ∷ ss) = none_past ss

module _ (s : SegmentValue) (legal : IsLegal s) (t : SegmentState) (many : length t.slaves ≡ length s.rows) (sound : IsSoundSegment t) (fixed : AtEach (IsFixed s) t.slaves) (wait_ns : ℕ) (f : FrameValue) where
  abbrev next : SegmentState
  next = (segment_step t wait_ns f).0

  abbrev at : ℕ
  at = leaves_at t wait_ns

  -- the slave behind the frame, where that reaches it
  abbrev behind : ℕ → Slave → Slave
  behind q v = slave_passed at (end_of (reach_of t f) t.slaves) v (datagrams_behind q at t.slaves f.datagrams)

  pub fixed_step : AtEach (IsFixed s) next.slaves
  fixed_step = each_after (IsFixed s) (IsFixed s) t wait_ns f (record {
    passed = λ q v early reached is h. fixed_passed at (end_of (reach_of t f) t.slaves) v (datagrams_behind q at t.slaves f.datagrams) ∙ h;
    beyond = λ q v early past low h. h;
    unsent = λ q v late h. h;
  }) fixed

  low : (q : ℕ) (v : Slave) → slice_get t.slaves q ≡ Some v → q < length s.rows
  low q v is = let within = low_where t.slaves q v is in let m = many in omega (arith, within, m)

  resting_at : (q : ℕ) (v : Slave) (m : Timing) → slice_get t.slaves q ≡ Some v → v.timing ≡ Some m → AllRest s t.slaves → Resting (row_there s q) at v m
  resting_at q v m is has rests =
      let here = sound_at t.round_trip t.free t.slaves q v sound is in
      record {
        is = has;
        size = here.size;
        kind = kind_there s legal q v (fixed q v is);
        early = early_at t wait_ns v m here has;
        rests = said (Rests (row_there s q)) v.timing m has (rests q v is);
      }

  -- a frame that leaves the system time lets the clocks rest
  pub rests_step : AreFar 0x0910 4 f.datagrams → AllRest s t.slaves → AllRest s next.slaves
  rests_step far rests = each_after (λ q v. slice_get t.slaves q ≡ Some v) (λ q v. IfSome v.timing (Rests (row_there s q))) t wait_ns f (record {
    passed = λ q v early reached is h. passed q v is v.timing refl;
    beyond = λ q v early past less is. rests q v is;
    unsent = λ q v late is. rests q v is;
  }) (λ q v is. is)
    where
      passed : (q : ℕ) (v : Slave) → slice_get t.slaves q ≡ Some v → (o : Option Timing) → v.timing ≡ o
          → IfSome (behind q v).timing (Rests (row_there s q))
      passed q v is None has = none_says (Rests (row_there s q)) (behind q v).timing (none_stays v (behind q v) (fixed_passed at (end_of (reach_of t f) t.slaves) v (datagrams_behind q at t.slaves f.datagrams)) has)
      passed q v is (Some m) has =
          let ds = datagrams_behind q at t.slaves f.datagrams in
          rests_passed (row_there s q) (keeps_there s legal q (low q v is) (measures_there s legal q v m (fixed q v is) has)).0 at (end_of (reach_of t f) t.slaves) v m ds (resting_at q v m is has rests)
          (far_left 0x0910 4 (at_arrival at v) ds (far_behind 0x0910 4 q at t.slaves f.datagrams (sizes_of t.round_trip t.free t.slaves sound) far))

  -- one that leaves the receive times lets them stand
  pub holds_step : (before : ℕ) → AreFar 0x0900 4 f.datagrams → AllHold s before t.slaves → AllHold s before next.slaves
  holds_step before far holds = each_after (λ q v. slice_get t.slaves q ≡ Some v) (λ q v. IfSome v.timing (λ m. HoldsTimes (row_there s q) before v)) t wait_ns f (record {
    passed = λ q v early reached is h. passed q v is v.timing refl;
    beyond = λ q v early past less is. holds q v is;
    unsent = λ q v late is. holds q v is;
  }) (λ q v is. is)
    where
      passed : (q : ℕ) (v : Slave) → slice_get t.slaves q ≡ Some v → (o : Option Timing) → v.timing ≡ o
          → IfSome (behind q v).timing
          (λ m. HoldsTimes (row_there s q) before (behind q v))
      passed q v is None has = none_says (λ m. HoldsTimes (row_there s q) before (behind q v)) (behind q v).timing (none_stays v (behind q v) (fixed_passed at (end_of (reach_of t f) t.slaves) v (datagrams_behind q at t.slaves f.datagrams)) has)
      passed q v is (Some m) has =
          let ds = datagrams_behind q at t.slaves f.datagrams in
          let quiet = never_latching (at_arrival at v) ds (far_left 0x0900 4 (at_arrival at v) ds (far_behind 0x0900 4 q at t.slaves f.datagrams (sizes_of t.round_trip t.free t.slaves sound) far)) in
          always (HoldsTimes (row_there s q) before (behind q v)) (behind q v).timing (holds_passed (row_there s q) (keeps_there s legal q (low q v is) (measures_there s legal q v m (fixed q v is) has)).0 before at (end_of (reach_of t f) t.slaves) v ds
          (sound_at t.round_trip t.free t.slaves q v sound is).size quiet (said (λ k. HoldsTimes (row_there s q) before v) v.timing m has (holds q v is)))

  -- and a Latch that comes back leaves what the clocks showed at its visits
  pub latch_step : (g : FrameValue) → CameBack t wait_ns f g → f.datagrams ≡ latch_datagrams → AreFar 0x0910 4 f.datagrams → AllRest s t.slaves → AllHold s at next.slaves
  latch_step g back is_latch far rests = each_after (λ q v. slice_get t.slaves q ≡ Some v) (λ q v. IfSome v.timing (λ m. HoldsTimes (row_there s q) at v)) t wait_ns f (record {
    passed = λ q v early reached is h. passed q v is v.timing refl;
    beyond = λ q v early past less is. absurd (let all = back.reach in omega (arith, all, past, less));
    unsent = λ q v late is. absurd (let early = back.early in omega (arith, early, late));
  }) (λ q v is. is)
    where
      end_is : end_of (reach_of t f) t.slaves ≡ None
      end_is = ap (λ h. end_of h t.slaves) back.reach ∙ ap (option_map (λ v. v.visits.arrive)) (none_past t.slaves)

      passed : (q : ℕ) (v : Slave) → slice_get t.slaves q ≡ Some v → (o : Option Timing) → v.timing ≡ o
          → IfSome (behind q v).timing
          (λ m. HoldsTimes (row_there s q) at (behind q v))
      passed q v is None has = none_says (λ m. HoldsTimes (row_there s q) at (behind q v)) (behind q v).timing (none_stays v (behind q v) (fixed_passed at (end_of (reach_of t f) t.slaves) v (datagrams_behind q at t.slaves f.datagrams)) has)
      passed q v is (Some m) has =
          let ds = datagrams_behind q at t.slaves f.datagrams in
          let sizes = sizes_of t.round_trip t.free t.slaves sound in
          let does = measures_there s legal q v m (fixed q v is) has in
          let latching = subst (λ xs. are_latching (at_arrival at v) (datagrams_behind q at t.slaves xs) ≡ true) (sym is_latch)
          (latch_frame q at at t.slaves v (kind_at s q) sizes (kind_there s legal q v (fixed q v is)) (latch_for_measuring (kind_at s q) ∙ ap not does)) in
          always (HoldsTimes (row_there s q) at (behind q v)) (behind q v).timing (subst (λ e. HoldsTimes (row_there s q) at (slave_passed at e v ds)) (sym end_is)
          (holds_latched (row_there s q) (keeps_there s legal q (low q v is) does).0 at v m ds (resting_at q v m is has rests) (turn_there s legal q v (low q v is) (fixed q v is))
          (far_left 0x0910 4 (at_arrival at v) ds (far_behind 0x0910 4 q at t.slaves f.datagrams sizes far)) latching))
