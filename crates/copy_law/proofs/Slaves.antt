-- A frame that does not write a place leaves of the slaves what only such a write changes.
use Rattle.std.proofs.Common.{◌≡◌, ℕ, zero, suc, ◌+◌, List, [], ◌∷◌, map, Option, Some, inl, inr, ap, ap₂, ◌∙◌, arith, refl}
use Rattle.std.specs.List.{AllByRecursion}
use Rattle.std.proofs.lemmas.Bool.{cases_lt}
use Rattle.copy_law.specs.Untouched.{WriteNone, ticks_to_correction}
use Rattle.copy_law.proofs.Corrections.{same_advanced, same_passed}
use Rattle.copy_law.proofs.Unwritten.{datagrams_none, left_none}
use Rattle.ecat_frame.specs.FrameGrammar.{DatagramValue, FrameValue}
use Rattle.ecat_link.specs.Exchanges.{Exchange, Runs}
use Rattle.frame_pass.specs.Advancing.{advanced_to}
use Rattle.frame_pass.specs.FramePass.{at_arrival, datagrams_passed, end_of, slave_passed, slaves_passed}
use Rattle.frame_pass.specs.Invariants.{IsSound, IsSoundSegment}
use Rattle.frame_pass.specs.PlainRegisters.{AreLeft, IsPlain}
use Rattle.frame_pass.specs.Reach.{reach_of}
use Rattle.frame_pass.specs.SegmentState.{SegmentState, finished, leaves_at, segment_step}
use Rattle.frame_pass.specs.SlaveState.{Slave, holds}
use Rattle.frame_pass.proofs.Exported.{step_slaves, left_passed, plain_time, is_not_sent, HasSize, timely_leaving, timely_step, never_latching, sizes_of, size_advanced, times_left, quiet_passed}
use Rattle.frame_pass.specs.Aside.{HaveSize}
use Rattle.frame_pass.specs.ReceiveTimes.{IsReceiveTime}

some_same : {X : Type 0} {x y : X} → Some x ≡ Some y → x ≡ y
some_same e = cc

-- a frame writes none of the n bytes at a place, nor makes a slave latch
pub record IsQuiet (at n : ℕ) (ds : List DatagramValue) : Type 0 where
  pub place : WriteNone at n ds
  pub latch : WriteNone 0x0900 4 ds

quiet_on : (at n sent : ℕ) (v : Slave) (ds : List DatagramValue) → HasSize v.registers → IsQuiet at n ds → IsQuiet at n (datagrams_passed sent v ds)
unfolding datagrams_passed
quiet_on at n sent v ds size quiet =
    let there = size_advanced (sent + v.visits.arrive) v size in
    record { place = datagrams_none at n (at_arrival sent v) ds there quiet.place; latch = datagrams_none 0x0900 4 (at_arrival sent v) ds there quiet.latch }

-- what is seen of a slave stays, where it writes none of the n bytes at a place and does not latch, and as time goes on
pub record IsKept {X : Type 0} (see : Slave → X) (at n : ℕ) : Type 0 where
  pub by_frames : (sent trip : ℕ) (end : Option ℕ) (v : Slave) (ds : List DatagramValue) → IsSound trip (sent + trip) v → AreLeft at n (at_arrival sent v) ds
      → AreLeft 0x0900 4 (at_arrival sent v) ds → see (slave_passed sent end v ds) ≡ see v
  pub by_time : (t : ℕ) (v : Slave) → HasSize v.registers → see (advanced_to t v) ≡ see v

abbrev pub IsHeldOn : ℕ → ℕ → Type 0
IsHeldOn at n = IsKept (λ v. holds n at v.registers) at n

pub plain_held : (at n : ℕ) → IsPlain at n → IsHeldOn at n
plain_held at n plain = record {
  by_frames = λ sent trip end v ds sound left latch. left_passed at n sent trip (sent + trip) end v ds plain (omega arith) sound left;
  by_time = λ t v size. plain_time at n t v plain size;
}

pub times_held : (at n : ℕ) → IsReceiveTime at n → IsHeldOn at n
times_held at n time = record {
  by_frames = λ sent trip end v ds sound left latch. quiet_passed at n sent end v ds time sound.size (never_latching (at_arrival sent v) ds latch);
  by_time = λ t v size. times_left at n t v time size;
}

pub corrections_kept : IsKept ticks_to_correction 0x0930 2
corrections_kept = record {
  by_frames = λ sent trip end v ds sound left latch. same_passed sent end v ds left;
  by_time = λ t v size. same_advanced t v;
}

module _ {X : Type 0} (see : Slave → X) (at n : ℕ) (kept : IsKept see at n) where
  -- one frame, slave by slave
  passed_alike : (trip h sent : ℕ) (end : Option ℕ) (ss : List Slave) (ds : List DatagramValue) → AllByRecursion (IsSound trip (sent + trip)) ss → IsQuiet at n ds
      → map see (slaves_passed h sent end ss ds) ≡ map see ss
  unfolding slaves_passed
  passed_alike trip zero sent end ss ds sound quiet = refl
  passed_alike trip (suc h) sent end [] ds sound quiet = refl
  passed_alike trip (suc h) sent end (v ∷ ss) ds sound quiet =
      let arrived = at_arrival sent v in
      ap₂ (λ (x : X) (xs : List X). x ∷ xs) (kept.by_frames sent trip end v ds sound.0 (left_none at n arrived ds quiet.place) (left_none 0x0900 4 arrived ds quiet.latch))
      (passed_alike trip h sent end ss (datagrams_passed sent v ds) sound.1 (quiet_on at n sent v ds sound.0.size quiet))

  step_alike : (s : SegmentState) (wait_ns : ℕ) (f : FrameValue) → IsSoundSegment s → IsQuiet at n f.datagrams → map see (segment_step s wait_ns f).0.slaves ≡ map see s.slaves
  step_alike s wait_ns f sound quiet =
      let leaves = leaves_at s wait_ns in
      elim (cases_lt s.sent 1000000) [
        | inl early ↦
            ap (λ (ss : List Slave). map see ss) (step_slaves s wait_ns f early)
            ∙ passed_alike s.round_trip (reach_of s f) leaves (end_of (reach_of s f) s.slaves) s.slaves f.datagrams (timely_leaving s leaves (omega arith) sound) quiet
        | inr late ↦ ap (λ (t : SegmentState). map see t.slaves) (is_not_sent s wait_ns f late).1
      ]

  -- frames, one after another
  pub frames_alike : (es : List Exchange) (s t : SegmentState) → IsSoundSegment s → AllByRecursion (λ (e : Exchange). IsQuiet at n e.sent.datagrams) es → Runs segment_step (Some s) es (Some t)
      → map see t.slaves ≡ map see s.slaves
  frames_alike [] s t sound quiet runs = let same : t ≡ s = some_same runs in ap (λ (u : SegmentState). map see u.slaves) same
  frames_alike (e ∷ es) s t sound quiet runs =
      frames_alike es (segment_step s e.wait_ns e.sent).0 t (timely_step s e.wait_ns e.sent sound) quiet.1 runs.1 ∙ step_alike s e.wait_ns e.sent sound quiet.0

  -- and as time goes on
  advanced_alike : (t : ℕ) (ss : List Slave) → HaveSize ss → map see (map (advanced_to t) ss) ≡ map see ss
  advanced_alike t [] sizes = refl
  advanced_alike t (v ∷ ss) sizes = ap₂ (λ (x : X) (xs : List X). x ∷ xs) (kept.by_time t v sizes.0) (advanced_alike t ss sizes.1)

  pub finished_alike : (t : ℕ) (s : SegmentState) → IsSoundSegment s → map see (finished t s).slaves ≡ map see s.slaves
  unfolding finished
  finished_alike t s sound = advanced_alike t s.slaves (sizes_of s.round_trip s.free s.slaves sound)
