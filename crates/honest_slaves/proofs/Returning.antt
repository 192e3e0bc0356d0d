-- What comes back of a segment's frame, and what is left of its slaves.
use Rattle.std.proofs.Common.{◌≡◌, ℕ, suc, ◌+◌, ◌<◌, List, ◌∷◌, length, Option, Some, None, refl, sym, ap, subst, ◌∙◌, arith, inl, inr}
use Rattle.std.specs.Prelude.{IfSome}
use Rattle.std.proofs.lemmas.Bool.{cases_lt}
use Rattle.ecat_frame.specs.Difference.{first_difference}
use Rattle.ecat_frame.specs.FrameGrammar.{DatagramValue, FrameValue}
use Rattle.esc_regs.specs.declared.clock_kind.ClockKind.{ClockKind}
use Rattle.frame_pass.specs.FramePass.{datagrams_behind}
use Rattle.frame_pass.specs.Invariants.{IsSoundSegment}
use Rattle.frame_pass.specs.Reach.{reach_of, reached_by}
use Rattle.frame_pass.specs.SegmentState.{SegmentState, segment_step, leaves_at, phase_of, number_of, numbered, leaving, carried_of}
use Rattle.frame_pass.proofs.Exported.{no_difference, is_below, is_lost, is_not_sent}
use Rattle.loss_list.specs.Losses.{loss_at}
use Rattle.loss_list.specs.declared.loss_row.Phase.{Phase}
use Rattle.loss_list.specs.declared.loss_row.Phase.TheVariants.{Commission, Drift}
use Rattle.honest_slaves.specs.Mindful.{Names, AreMindful}
use Rattle.honest_slaves.proofs.Frames.{same_many, step_standing, step_naming}
use Rattle.honest_slaves.specs.Told.{AreInOrder}

some_same : {X : Type 0} {x y : X} → Some x ≡ Some y → x ≡ y
some_same e = cc

-- a frame that came back reached all slaves, and brings what is behind the last
pub record CameBack (s : SegmentState) (wait_ns : ℕ) (f g : FrameValue) : Type 0 where
  pub early : s.sent < 1000000
  pub reach : reach_of s f ≡ length s.slaves
  pub datagrams : g.datagrams ≡ datagrams_behind (length s.slaves) (leaves_at s wait_ns) s.slaves f.datagrams

brings : (s : SegmentState) (wait_ns : ℕ) (f : FrameValue) → s.sent < 1000000 → loss_at s.losses (phase_of f.datagrams) (number_of (phase_of f.datagrams) s + 1) ≡ None
    → (segment_step s wait_ns f).1 ≡ Some (record f { datagrams = datagrams_behind (length s.slaves) (leaves_at s wait_ns) s.slaves f.datagrams })
unfolding segment_step
brings s wait_ns f early kept = rw (is_below s.sent 1000000 early) (by (phase_of f.datagrams) kept)
  where
    by : (phase : Phase) → loss_at s.losses phase (number_of phase s + 1) ≡ None
        → (carried_of phase (numbered phase (leaving (leaves_at s wait_ns) s)) f).1 ≡ Some (record f { datagrams = datagrams_behind (length s.slaves) (leaves_at s wait_ns) s.slaves f.datagrams })
    by Commission e = rw e refl
    by Drift e = rw e refl

reaches_all : (s : SegmentState) (f : FrameValue) → loss_at s.losses (phase_of f.datagrams) (number_of (phase_of f.datagrams) s + 1) ≡ None → reach_of s f ≡ length s.slaves
unfolding reach_of
reaches_all s f e = ap (λ o. reached_by o s.slaves) e

pub came_back : (s : SegmentState) (wait_ns : ℕ) (f g : FrameValue) → (segment_step s wait_ns f).1 ≡ Some g → CameBack s wait_ns f g
came_back s wait_ns f g is =
    elim (cases_lt s.sent 1000000) [
      | inl early ↦ by early (loss_at s.losses (phase_of f.datagrams) (number_of (phase_of f.datagrams) s + 1)) refl
      | inr late ↦ absurd (let none : None ≡ Some g = sym ((is_not_sent s wait_ns f late).0) ∙ is in cc)
    ]
  where
    by : s.sent < 1000000 → (o : Option ℕ) → loss_at s.losses (phase_of f.datagrams) (number_of (phase_of f.datagrams) s + 1) ≡ o → CameBack s wait_ns f g
    by early None e = record { early = early; reach = reaches_all s f e; datagrams = ap (λ (h : FrameValue). h.datagrams) (some_same (sym is ∙ brings s wait_ns f early e)) }
    by early (Some h) e = absurd (let none : None ≡ Some g = sym ((is_lost s wait_ns f h early e).0) ∙ is in cc)

-- it differs in nothing that it may not
pub undisturbed : (s : SegmentState) (wait_ns : ℕ) (f g : FrameValue) → IsSoundSegment s → (segment_step s wait_ns f).1 ≡ Some g → first_difference f g ≡ None
undisturbed s wait_ns f g sound is = subst (λ (o : Option FrameValue). IfSome o (λ h. first_difference f h ≡ None)) is (no_difference s wait_ns f sound)

-- slaves stay in order, whether the frame comes back or not
pub order_stays : (kinds : ℕ → ClockKind) (statuses : ℕ → ℕ) (n named : ℕ) (s : SegmentState) (wait_ns : ℕ) (f : FrameValue) → IsSoundSegment s → AreMindful 0 f.datagrams
    → AreInOrder kinds statuses n named s.slaves → AreInOrder kinds statuses n named (segment_step s wait_ns f).0.slaves
order_stays kinds statuses n named s wait_ns f sound mindful are =
    elim (cases_lt s.sent 1000000) [
      | inl early ↦
          let many = are.many in
          let few = are.few in
          record {
            many = same_many s wait_ns f ∙ many;
            few = few;
            within = are.within;
            standing = step_standing kinds statuses named s wait_ns f early sound (omega (arith, many, few)) mindful are.standing;
          }
      | inr late ↦ subst (λ (t : SegmentState). AreInOrder kinds statuses n named t.slaves) (sym ((is_not_sent s wait_ns f late).1)) are
    ]

-- and one more is named by a frame that names it and came back
pub order_grows : (kinds : ℕ → ClockKind) (statuses : ℕ → ℕ) (n p : ℕ) (s : SegmentState) (wait_ns : ℕ) (f g : FrameValue) (d : DatagramValue) (ds : List DatagramValue) → IsSoundSegment s → p < n
    → f.datagrams ≡ d ∷ ds → AreMindful 0 (d ∷ ds) → Names p 0 d → (segment_step s wait_ns f).1 ≡ Some g → AreInOrder kinds statuses n p s.slaves
    → AreInOrder kinds statuses n (suc p) (segment_step s wait_ns f).0.slaves
order_grows kinds statuses n p s wait_ns f g d ds sound low is mindful names came are =
    let many = are.many in
    let few = are.few in
    let back = came_back s wait_ns f g came in
    let reach = back.reach in
    record {
      many = same_many s wait_ns f ∙ many;
      few = few;
      within = omega (arith, low);
      standing = step_naming kinds statuses p s wait_ns f d ds back.early sound (omega (arith, many, few)) is mindful names (omega (arith, reach, many, low)) are.standing;
    }
