-- The causes of refusals of a step.
use Rattle.std.proofs.Common.{◌≡◌, ℕ, Bool, true, false, cond, ◌==◌, List, [], ◌∷◌, Option, Some, None, Result, Ok, Err, IfErr, refl, sym, ap, subst, ◌∙◌}
use Rattle.ecat_frame.specs.Difference.{first_difference}
use Rattle.ecat_frame.specs.FrameGrammar.{FrameValue, IsFrame}
use Rattle.master_script.specs.Config.{ConfigValue}
use Rattle.master_script.specs.Judged.{counters, judged, judged_by, miscounted}
use Rattle.master_script.specs.Steps.{expected, frame_of}
use Rattle.master_script.specs.Words.{Words}
use Rattle.master_script.specs.declared.step.Refusal.{Refusal}
use Rattle.master_script.specs.declared.step.Refusal.TheVariants.{Lost, Counter, Reply, Topology, NoReference, Unmeasurable}
use Rattle.master_script.specs.declared.step.Step.{Step}
use Rattle.master_steps.specs.Asking.{IsCauseAt, IsReceived}
use Rattle.master_script.proofs.Exported.{counter_told, reply_told}

-- what is refused by a judgement names the step, and is no loss and nothing of the slaves
abbrev pub OfStep : Step → Refusal → Type 0
OfStep step (Reply q at) = q ≡ step
OfStep step (Counter q e k) = q ≡ step
OfStep step r = ⊥

miscount_of : (step : Step) (expected counters : List ℕ) (r : Refusal) → miscounted step expected counters ≡ Some r → OfStep step r
miscount_of step [] ks r e = absurd cc
miscount_of step (x ∷ xs) [] r e = absurd cc
miscount_of step (x ∷ xs) (k ∷ ks) r e = here (k == x) (miscounted step xs ks) (miscount_of step xs ks r) e
  where
    here : (b : Bool) (o : Option Refusal) → (o ≡ Some r → OfStep step r) → cond b o (Some (Counter step x k)) ≡ Some r → OfStep step r
    here true o h e = h e
    here false o h e = let s : Counter step x k ≡ r = cc in subst (λ y. OfStep step y) s refl

named : (step : Step) (expected : List ℕ) (reply : FrameValue) (r : Refusal) (o : Option ℕ) → judged_by step expected reply o ≡ Some r → OfStep step r
named step expected reply r None e = miscount_of step expected (counters reply) r e
named step expected reply r (Some at) e = let s : Reply step at ≡ r = cc in subst (λ y. OfStep step y) s refl

pub names : (step : Step) (expected : List ℕ) (sent reply : FrameValue) (r : Refusal) → judged step expected sent reply ≡ Some r → OfStep step r
unfolding judged
names step expected sent reply r e = named step expected reply r (first_difference sent reply) e

-- a reply that was refused is a cause
cause_of : (cfg : ConfigValue) (w : Words) (step : Step) (reply : FrameValue) (r : Refusal) → IsFrame reply → OfStep step r
    → judged step (expected cfg w step reply) (frame_of cfg w step) reply ≡ Some r → IsCauseAt cfg w step r
cause_of cfg w step reply (Lost q) v n j = absurd n
cause_of cfg w step reply (Reply q at) v n j =
    let t = (reply_told step q (expected cfg w step reply) (frame_of cfg w step) reply at).0 j in
    (t.0, record { reply = reply; valid = v; differs = t.1 })
cause_of cfg w step reply (Counter q e k) v n j =
    let t = (counter_told step q (expected cfg w step reply) (frame_of cfg w step) reply e k).0 j in
    (t.0, record { reply = reply; valid = v; alike = t.1; miscount = t.2 })
cause_of cfg w step reply (Topology e) v n j = absurd n
cause_of cfg w step reply NoReference v n j = absurd n
cause_of cfg w step reply (Unmeasurable k) v n j = absurd n

pub reply_causes : (cfg : ConfigValue) (w : Words) (step : Step) (sent reply : FrameValue) (r : Refusal) → sent ≡ frame_of cfg w step → IsFrame reply
    → judged step (expected cfg w step reply) sent reply ≡ Some r → IsCauseAt cfg w step r
reply_causes cfg w step sent reply r s v j =
    let j' : judged step (expected cfg w step reply) (frame_of cfg w step) reply ≡ Some r = ap (λ f. judged step (expected cfg w step reply) f reply) (sym s) ∙ j in
    cause_of cfg w step reply r v (names step (expected cfg w step reply) (frame_of cfg w step) reply r j') j'

pub received_causes : (cfg : ConfigValue) (number : ℕ) (step : Step) (sent reply : FrameValue) (w later : Words) (r : Result (Unit {0}) Refusal) → sent ≡ frame_of cfg w step → IsFrame reply
    → IsReceived cfg number step sent reply w later r → IfErr r (IsCauseAt cfg later step)
received_causes cfg number step sent reply w later (Ok u) s v h = tt
received_causes cfg number step sent reply w later (Err r) s v h = subst (λ x. IsCauseAt cfg x step r) (sym h.1) (reply_causes cfg w step sent reply r s v h.0)
