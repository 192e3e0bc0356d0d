-- From each slave to all, over one sending.
use Rattle.std.proofs.Common.{◌≡◌, ℕ, ◌+◌, ◌<◌, ◌≤◌, List, length, Option, Some, sym, ap, subst, ◌∙◌, arith, inl, inr}
use Rattle.std.specs.Prelude.{IfSome, slice_get}
use Rattle.std.proofs.lemmas.Bool.{cases_lt}
use Rattle.ecat_frame.specs.FrameGrammar.{FrameValue}
use Rattle.frame_pass.specs.SlaveState.{Slave, Timing}
use Rattle.frame_pass.specs.FramePass.{datagrams_behind, end_of, slave_passed}
use Rattle.frame_pass.specs.Invariants.{IsSound}
use Rattle.frame_pass.specs.Reach.{reach_of}
use Rattle.frame_pass.specs.SegmentState.{SegmentState, leaves_at, segment_step}
use Rattle.frame_pass.proofs.Exported.{step_reached, step_stays, is_not_sent}
use Rattle.honest_slaves.proofs.Exported.{had_before, low_where, same_many}

some_same : {X : Type 0} {x y : X} → Some x ≡ Some y → x ≡ y
some_same e = cc

-- what each slave at its position has
abbrev pub AtEach : (ℕ → Slave → Type 0) → List Slave → Type 0
AtEach P ss = (q : ℕ) (v : Slave) → slice_get ss q ≡ Some v → P q v

-- a sound slave stands by the arrival of the next frame
pub early_at : (s : SegmentState) (wait_ns : ℕ) (v : Slave) (m : Timing) → IsSound s.round_trip s.free v → v.timing ≡ Some m → m.clock.instant ≤ leaves_at s wait_ns + v.visits.arrive
early_at s wait_ns v m sound is =
    let by : m.clock.instant ≤ s.free = subst (λ (o : Option Timing). IfSome o (λ k. k.clock.instant ≤ s.free)) is sound.time in
    let late : s.free ≤ leaves_at s wait_ns = omega arith in
    omega (arith, by, late)

module _ (P Q : ℕ → Slave → Type 0) (s : SegmentState) (wait_ns : ℕ) (f : FrameValue) where
  -- what the frame makes of P at a slave that it reaches, and that it stays where it does not
  pub record Makes : Type 0 where
    pub passed : (q : ℕ) (v : Slave) → s.sent < 1000000 → q < reach_of s f → slice_get s.slaves q ≡ Some v → P q v
        → Q q (slave_passed (leaves_at s wait_ns) (end_of (reach_of s f) s.slaves) v (datagrams_behind q (leaves_at s wait_ns) s.slaves f.datagrams))
    pub beyond : (q : ℕ) (v : Slave) → s.sent < 1000000 → reach_of s f ≤ q → q < length s.slaves → P q v → Q q v
    pub unsent : (q : ℕ) (v : Slave) → 1000000 ≤ s.sent → P q v → Q q v

  at_one : Makes → s.sent < 1000000 → (q : ℕ) (v w : Slave) → slice_get s.slaves q ≡ Some v → slice_get (segment_step s wait_ns f).0.slaves q ≡ Some w → P q v → Q q w
  at_one makes early q v w is after h =
      elim (cases_lt q (reach_of s f)) [
        | inl reached ↦ subst (Q q) (some_same (sym (step_reached s wait_ns f q v early reached is) ∙ after)) (makes.passed q v early reached is h)
        | inr past ↦ subst (Q q) (some_same (sym is ∙ sym (step_stays s wait_ns f q early past) ∙ after)) (makes.beyond q v early past (low_where s.slaves q v is) h)
      ]

  pub each_after : Makes → AtEach P s.slaves → AtEach Q (segment_step s wait_ns f).0.slaves
  each_after makes all =
      elim (cases_lt s.sent 1000000) [
        | inl early ↦ λ q w after.
            let many = same_many s wait_ns f in
            let within = low_where (segment_step s wait_ns f).0.slaves q w after in
            let v = had_before s.slaves q (omega (arith, many, within)) in
            at_one makes early q v.slave w v.is after (all q v.slave v.is)
        | inr late ↦ λ q w after.
            let same = (is_not_sent s wait_ns f late).1 in
            makes.unsent q w late (all q w (ap (λ (t : SegmentState). slice_get t.slaves q) (sym same) ∙ after))
      ]
