-- The cases of one sending.
use Rattle.std.proofs.Common.{◌≡◌, ◌↔◌, ℕ, ◌+◌, ◌<◌, ◌≤◌, true, false, List, [], ◌∷◌, length, Option, Some, None, refl, sym, ap, ap₂, subst, ◌∙◌, arith, inl, inr}
use Rattle.std.specs.Prelude.{nat_lt, Result, IsErr, IsSome}
use Rattle.std.proofs.lemmas.Bool.Decides.{nat_tests}
use Rattle.dc_base.specs.Causes.{raised}
use Rattle.ecat_frame.specs.FrameGrammar.{DatagramValue, FrameValue, all_spelled}
use Rattle.ecat_link.specs.Exchanges.{Follows}
use Rattle.loss_list.specs.Losses.{loss_at}
use Rattle.loss_list.specs.declared.loss_row.Phase.{Phase}
use Rattle.loss_list.specs.declared.loss_row.Phase.TheVariants.{Commission, Drift}
use Rattle.wire_sim.specs.Loses.{LosesNext}
use Rattle.frame_pass.specs.SegmentState.{SegmentState, phase_of, number_of, numbered, leaving, leaves_at, carried, carried_of, segment_step}

-- a frame has a datagram
pub some_datagram : (ds : List DatagramValue) → 12 ≤ length (all_spelled ds) → 0 < length ds
unfolding all_spelled
some_datagram [] h = absurd (omega (arith, h))
some_datagram (d ∷ ds) h = omega arith

is_below : (m n : ℕ) → m < n → nat_lt m n ≡ true
is_below m n h = grind (arith, nat_tests)

is_not_below : (m n : ℕ) → n ≤ m → nat_lt m n ≡ false
is_not_below m n h = grind (arith, nat_tests)

step_late : (s : SegmentState) (wait_ns : ℕ) (f : FrameValue) → 1000000 ≤ s.sent → segment_step s wait_ns f ≡ (record s { lost = raised s.lost }, None)
unfolding segment_step
step_late s wait_ns f h = let e = is_not_below s.sent 1000000 h in rw e refl

step_sent : (s : SegmentState) (wait_ns : ℕ) (f : FrameValue) → s.sent < 1000000
    → segment_step s wait_ns f ≡ carried_of (phase_of f.datagrams) (numbered (phase_of f.datagrams) (leaving (leaves_at s wait_ns) s)) f
unfolding segment_step
step_sent s wait_ns f h = let e = is_below s.sent 1000000 h in rw e refl

follows : (s t : SegmentState) (wait_ns : ℕ) (f : FrameValue) (back : Option FrameValue) (u : SegmentState × Option FrameValue) → segment_step s wait_ns f ≡ u
    → t ≡ u.0 → back ≡ u.1 → Follows segment_step (Some s) (Some t) (record { wait_ns = wait_ns; sent = f; back = back })
follows s t wait_ns f back u e p q = rw e (ap Some p, q)

-- after 1,000,000 sendings
pub told_late : (s t : SegmentState) (wait_ns : ℕ) (f : FrameValue) → 1000000 ≤ s.sent → t ≡ record s { lost = raised s.lost }
    → Follows segment_step (Some s) (Some t) (record { wait_ns = wait_ns; sent = f; back = None })
told_late s t wait_ns f h e = follows s t wait_ns f None _ (step_late s wait_ns f h) e refl

-- a frame that leaves
pub told_sent : (s t u : SegmentState) (wait_ns : ℕ) (f : FrameValue) (phase : Phase) (after : Option ℕ) (back : Option FrameValue) → s.sent < 1000000
    → phase ≡ phase_of f.datagrams → t ≡ numbered phase (leaving (leaves_at s wait_ns) s) → after ≡ loss_at t.losses phase (number_of phase t)
    → u ≡ (carried after t f).0 → back ≡ (carried after t f).1 → Follows segment_step (Some s) (Some u) (record { wait_ns = wait_ns; sent = f; back = back })
told_sent s t u wait_ns f phase after back h p l a new came =
    let one : carried after t f ≡ carried_of phase t f = ap (λ x. carried x t f) a in
    let two : carried_of phase t f ≡ carried_of phase (numbered phase (leaving (leaves_at s wait_ns) s)) f = ap (λ x. carried_of phase x f) l in
    let three : carried_of phase (numbered phase (leaving (leaves_at s wait_ns) s)) f
    ≡ carried_of (phase_of f.datagrams) (numbered (phase_of f.datagrams) (leaving (leaves_at s wait_ns) s)) f =
    ap (λ x. carried_of x (numbered x (leaving (leaves_at s wait_ns) s)) f) p in
    follows s u wait_ns f back (carried after t f) (step_sent s wait_ns f h ∙ sym (one ∙ two ∙ three)) new came

-- what leaving changes
losses_stay : (phase : Phase) (s : SegmentState) (at : ℕ) → (numbered phase (leaving at s)).losses ≡ s.losses
losses_stay Commission s at = refl
losses_stay Drift s at = refl

one_more : (phase : Phase) (s : SegmentState) (at : ℕ) → number_of phase (numbered phase (leaving at s)) ≡ number_of phase s + 1
one_more Commission s at = refl
one_more Drift s at = refl

-- the loss of a frame that leaves is that of the next number
next_loss : (s t : SegmentState) (wait_ns : ℕ) (f : FrameValue) (phase : Phase) (after : Option ℕ) → phase ≡ phase_of f.datagrams
    → t ≡ numbered phase (leaving (leaves_at s wait_ns) s) → after ≡ loss_at t.losses phase (number_of phase t)
    → after ≡ loss_at s.losses (phase_of f.datagrams) (number_of (phase_of f.datagrams) s + 1)
next_loss s t wait_ns f phase after p l a =
    a ∙ ap (λ u. loss_at u.losses phase (number_of phase u)) l
    ∙ ap₂ (λ ls n. loss_at ls phase n) (losses_stay phase s (leaves_at s wait_ns)) (one_more phase s (leaves_at s wait_ns))
    ∙ ap (λ x. loss_at s.losses x (number_of x s + 1)) p

pub loses_by : {A B : Type 0} (s : SegmentState) (f : FrameValue) (result : Result A B) (after : Option ℕ) → s.sent < 1000000
    → after ≡ loss_at s.losses (phase_of f.datagrams) (number_of (phase_of f.datagrams) s + 1) → (IsErr result ↔ IsSome after) → IsErr result ↔ LosesNext s f
loses_by s f result after h e iff = (λ err. inr (subst (λ o. IsSome o) e (iff.0 err)), back)
  where
    back : LosesNext s f → IsErr result
    back (inl late) = absurd (omega (arith, late, h))
    back (inr some) = iff.1 (subst (λ o. IsSome o) (sym e) some)

pub loses : {A B : Type 0} (s t : SegmentState) (wait_ns : ℕ) (f : FrameValue) (phase : Phase) (after : Option ℕ) (result : Result A B) → s.sent < 1000000
    → phase ≡ phase_of f.datagrams → t ≡ numbered phase (leaving (leaves_at s wait_ns) s) → after ≡ loss_at t.losses phase (number_of phase t)
    → (IsErr result ↔ IsSome after) → IsErr result ↔ LosesNext s f
loses s t wait_ns f phase after result h p l a iff = loses_by s f result after h (next_loss s t wait_ns f phase after p l a) iff
