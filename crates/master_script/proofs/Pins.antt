-- What a master keeps between two calls says at which place of the script it stands.
use Rattle.std.proofs.Common.{◌≡◌, ◌≢◌, ℕ, ◌+◌, ◌<◌, ◌≤◌, Bool, true, false, cond, eqb, ◌==◌, List, [], ◌∷◌, Option, Some, None, Result, Ok, Err, fold, refl, sym, ap, subst, ◌∙◌, arith}
use Rattle.std.proofs.lemmas.Bool.Decides.{nat_tests}
use Rattle.ecat_frame.specs.FrameGrammar.{FrameValue}
use Rattle.ecat_link.specs.Exchanges.{Exchange}
use Rattle.master_script.specs.Config.{ConfigValue, settle_frames}
use Rattle.master_script.specs.Judged.{judged}
use Rattle.master_script.specs.Kept.{Kept, kept_after, kept_at, StandsFor, stage_by, resting}
use Rattle.master_script.specs.Progress.{Phase, Commissioning, Settling, Arming, Running, Progress, progress, after, beginning, asked, answered, done, planned, missed, noted, brought, lost_at, counted, moved, settling, settled_by, timed, running, arm_steps}
use Rattle.master_script.specs.Slaves.{judgement}
use Rattle.master_script.specs.Steps.{expected}
use Rattle.master_script.specs.Words.{Words}
use Rattle.master_script.specs.declared.step.Refusal.{Refusal}
use Rattle.master_script.specs.declared.step.Step.{Step}
use Rattle.master_script.specs.declared.step.Stage.{Stage}
use Rattle.master_script.specs.declared.step.Stage.TheVariants.{Fresh, Commissioned, Settled, Armed, Ended}

-- what holds of a place that exchanges lead to, by its refusal and stage
abbrev pub SoundBy : ConfigValue → Progress → Option Refusal → Phase → Type 0
SoundBy cfg p (Some r) s = Unit {0}
SoundBy cfg p None Commissioning = (p.ran ≡ 0) × (p.drifts ≡ 0)
SoundBy cfg p None Settling = (p.ran ≡ 0) × (p.todo ≡ []) × (p.tries ≡ 0) × (p.drifts < settle_frames cfg)
SoundBy cfg p None Arming = (p.ran ≡ 0) × (settle_frames cfg ≤ p.drifts) × (p.drifts ≡ settle_frames cfg → (p.todo ≡ arm_steps p.words.slaves) × (p.tries ≡ 0))
SoundBy cfg p None Running = (p.todo ≡ []) × (p.tries ≡ 0) × (settle_frames cfg < p.drifts)

abbrev pub IsSound : ConfigValue → Progress → Type 0
IsSound cfg p = SoundBy cfg p p.refused p.phase

fresh_sound : (cfg : ConfigValue) (p : Progress) (o : Option Refusal) → p.ran ≡ 0 → p.drifts ≡ 0 → SoundBy cfg p o Commissioning
fresh_sound cfg p None a b = (a, b)
fresh_sound cfg p (Some r) a b = tt

-- behind the first arming frame
arming_sound : (cfg : ConfigValue) (p : Progress) (o : Option Refusal) → p.ran ≡ 0 → settle_frames cfg < p.drifts → SoundBy cfg p o Arming
arming_sound cfg p None a b = (a, omega (arith, b), λ e. absurd (omega (arith, b, e)))
arming_sound cfg p (Some r) a b = tt

planned_sound : (cfg : ConfigValue) (p : Progress) (j : Result ℕ Refusal) → p.refused ≡ None → p.phase ≡ Commissioning → p.ran ≡ 0 → p.drifts ≡ 0 → IsSound cfg (planned p j)
planned_sound cfg p (Err r) n s a b = tt
planned_sound cfg p (Ok x) n s a b = rw (n, s) (a, b)

-- the last step of commissioning
done_fresh : (cfg : ConfigValue) (p : Progress) (reference : Option ℕ) → p.refused ≡ None → p.phase ≡ Commissioning → p.todo ≡ [] → p.tries ≡ 0 → p.ran ≡ 0 → p.drifts ≡ 0 → IsSound cfg (done p Commissioning reference)
done_fresh cfg p None n s t z a b = planned_sound cfg p (judgement p.words.slaves) n s a b
done_fresh cfg p (Some r) n s t z a b = rw n (a, t, z, omega (arith, b))

answered_fresh : (cfg : ConfigValue) (p : Progress) (step : Step) (rest : List Step) (f : FrameValue) (o : Option Refusal) → p.refused ≡ None → p.phase ≡ Commissioning → p.ran ≡ 0 → p.drifts ≡ 0 → IsSound cfg (answered p step rest f o)
answered_fresh cfg p step rest f (Some r) n s a b = tt
answered_fresh cfg p step [] f None n s a b =
    let q = noted p step [] f in
    subst (λ x. IsSound cfg (done q x q.words.reference)) (sym s) (done_fresh cfg q q.words.reference n s refl refl a b)
answered_fresh cfg p step (next ∷ rest) f None n s a b = rw (n, s) (a, b)

asked_fresh : (cfg : ConfigValue) (p : Progress) (sent : FrameValue) (back : Option FrameValue) (todo : List Step) → p.refused ≡ None → p.phase ≡ Commissioning → p.ran ≡ 0 → p.drifts ≡ 0 → IsSound cfg (asked cfg p sent back todo)
asked_fresh cfg p sent back [] n s a b = rw (n, s) (a, b)
asked_fresh cfg p sent None (step ∷ rest) n s a b = rw s (fresh_sound cfg (missed p step) (lost_at step (p.tries + 1)) a b)
asked_fresh cfg p sent (Some f) (step ∷ rest) n s a b = answered_fresh cfg p step rest f (judged step (expected cfg p.words step f) sent f) n s a b

-- the same while arming, where each sending is a drift frame more
answered_settled : (cfg : ConfigValue) (p : Progress) (step : Step) (rest : List Step) (f : FrameValue) (o : Option Refusal) → p.refused ≡ None → p.phase ≡ Arming → p.ran ≡ 0 → settle_frames cfg < p.drifts → IsSound cfg (answered p step rest f o)
answered_settled cfg p step rest f (Some r) n s a b = tt
answered_settled cfg p step [] f None n s a b =
    let q = noted p step [] f in
    subst (λ x. IsSound cfg (done q x q.words.reference)) (sym s) (rw n (refl, refl, b))
answered_settled cfg p step (next ∷ rest) f None n s a b = rw (n, s) (arming_sound cfg (noted p step (next ∷ rest) f) None a b)

asked_settled : (cfg : ConfigValue) (p : Progress) (sent : FrameValue) (back : Option FrameValue) (todo : List Step) → p.refused ≡ None → p.phase ≡ Arming → p.ran ≡ 0 → settle_frames cfg < p.drifts → IsSound cfg (asked cfg p sent back todo)
asked_settled cfg p sent back [] n s a b = rw (n, s) (arming_sound cfg p None a b)
asked_settled cfg p sent None (step ∷ rest) n s a b = rw s (arming_sound cfg (missed p step) (lost_at step (p.tries + 1)) a b)
asked_settled cfg p sent (Some f) (step ∷ rest) n s a b = answered_settled cfg p step rest f (judged step (expected cfg p.words step f) sent f) n s a b

-- settling
from_eqb : (m n : ℕ) → eqb m n ≡ true → m ≡ n
from_eqb m n h = grind (arith, nat_tests)

settled_by_sound : (cfg : ConfigValue) (p : Progress) (time : Option ℕ) → p.refused ≡ None → p.ran ≡ 0 → p.tries ≡ 0 → p.drifts ≡ settle_frames cfg → IsSound cfg (settled_by p time)
settled_by_sound cfg p None n a z d = tt
settled_by_sound cfg p (Some r) n a z d = rw n (a, omega (arith, d), λ e. (refl, z))

less : (m k : ℕ) → eqb m k ≡ false → m ≤ k → m < k
less m k h l = grind (arith, nat_tests)

settled_sound : (cfg : ConfigValue) (p : Progress) (last : Bool) → eqb p.drifts (settle_frames cfg) ≡ last → p.refused ≡ None → p.phase ≡ Settling → p.ran ≡ 0 → p.todo ≡ [] → p.tries ≡ 0 → p.drifts ≤ settle_frames cfg
    → IsSound cfg (cond last (settled_by p p.words.time) p)
settled_sound cfg p true l n s a t z d = settled_by_sound cfg p p.words.time n a z (from_eqb _ _ l)
settled_sound cfg p false l n s a t z d = rw (n, s) (a, t, z, less p.drifts (settle_frames cfg) l d)

timed_sound : (cfg : ConfigValue) (p : Progress) (f : FrameValue) (o : Option Refusal) → p.refused ≡ None → p.phase ≡ Settling → p.ran ≡ 0 → p.todo ≡ [] → p.tries ≡ 0 → p.drifts ≤ settle_frames cfg → IsSound cfg (timed cfg p f o)
timed_sound cfg p f (Some r) n s a t z d = tt
timed_sound cfg p f None n s a t z d = settled_sound cfg (brought cfg p f) _ refl n s a t z d

settling_sound : (cfg : ConfigValue) (p : Progress) (sent : FrameValue) (back : Option FrameValue) → p.refused ≡ None → p.phase ≡ Settling → p.ran ≡ 0 → p.todo ≡ [] → p.tries ≡ 0 → p.drifts ≤ settle_frames cfg
    → IsSound cfg (settling cfg p sent back)
settling_sound cfg p sent None n s a t z d = settled_sound cfg p _ refl n s a t z d
settling_sound cfg p sent (Some f) n s a t z d = timed_sound cfg p f _ n s a t z d

-- running
running_any : (cfg : ConfigValue) (p : Progress) (o : Option Refusal) → p.todo ≡ [] → p.tries ≡ 0 → settle_frames cfg < p.drifts → SoundBy cfg p o Running
running_any cfg p None t z d = (t, z, d)
running_any cfg p (Some r) t z d = tt

running_sound : (cfg : ConfigValue) (p : Progress) (sent : FrameValue) (back : Option FrameValue) → p.refused ≡ None → p.phase ≡ Running → p.todo ≡ [] → p.tries ≡ 0 → settle_frames cfg < p.drifts → IsSound cfg (running cfg p sent back)
running_sound cfg p sent None n s t z d = rw (n, s) (t, z, d)
running_sound cfg p sent (Some f) n s t z d = rw s (running_any cfg (running cfg p sent (Some f)) _ t z d)

moved_sound : (cfg : ConfigValue) (p : Progress) (sent : FrameValue) (back : Option FrameValue) (o : Option Refusal) (s : Phase) → p.refused ≡ o → p.phase ≡ s → SoundBy cfg p o s → IsSound cfg (moved cfg (counted p back) sent back o s)
moved_sound cfg p sent back (Some r) s n e h = rw n tt
moved_sound cfg p sent back None Commissioning n e h = asked_fresh cfg (counted p back) sent back p.todo n e (rw e (omega (arith, h.0))) (rw e (omega (arith, h.1)))
moved_sound cfg p sent back None Settling n e h = settling_sound cfg (counted p back) sent back n e (rw e (omega (arith, h.0))) h.1 h.2 (rw e (let d = h.3 in omega (arith, d)))
moved_sound cfg p sent back None Arming n e h = asked_settled cfg (counted p back) sent back p.todo n e (rw e (omega (arith, h.0))) (rw e (omega (arith, h.1)))
moved_sound cfg p sent back None Running n e h = running_sound cfg (counted p back) sent back n e h.0 h.1 (rw e (let d = h.2 in omega (arith, d)))

pub after_sound : (cfg : ConfigValue) (p : Progress) (e : Exchange) → IsSound cfg p → IsSound cfg (after cfg p e)
unfolding after
after_sound cfg p e h = moved_sound cfg p e.sent e.back p.refused p.phase refl refl h

fold_sound : (cfg : ConfigValue) (p : Progress) (es : List Exchange) → IsSound cfg p → IsSound cfg (fold (after cfg) p es)
fold_sound cfg p [] h = h
fold_sound cfg p (e ∷ es) h = fold_sound cfg (after cfg p e) es (after_sound cfg p e h)

pub progress_sound : (cfg : ConfigValue) (es : List Exchange) → IsSound cfg (progress cfg es)
unfolding progress
progress_sound cfg es = fold_sound cfg (beginning cfg) es (refl, refl)

-- the stage that is kept, at some progress
run_armed : (b : Bool) (s : Stage) → cond b Armed Ended ≡ s → s ≢ Armed → s ≢ Ended → ⊥
run_armed true s e a b = a (sym e)
run_armed false s e a b = b (sym e)

is_commissioned : (p : Progress) (o : Option Refusal) (s : Phase) → p.phase ≡ s → stage_by None p o ≡ Commissioned → (o ≡ None) × (s ≡ Settling)
is_commissioned p (Some r) s y h = absurd cc
is_commissioned p None Commissioning y h = absurd (let z : Fresh ≡ Commissioned = rw y at h in cc)
is_commissioned p None Settling y h = (refl, refl)
is_commissioned p None Arming y h = absurd (let z : Settled ≡ Commissioned = rw y at h in cc)
is_commissioned p None Running y h = absurd (run_armed (p.ran == 0) Commissioned (rw y at h) (λ k. absurd cc) (λ k. absurd cc))

is_settled : (p : Progress) (o : Option Refusal) (s : Phase) → p.phase ≡ s → stage_by None p o ≡ Settled → (o ≡ None) × (s ≡ Arming)
is_settled p (Some r) s y h = absurd cc
is_settled p None Commissioning y h = absurd (let z : Fresh ≡ Settled = rw y at h in cc)
is_settled p None Settling y h = absurd (let z : Commissioned ≡ Settled = rw y at h in cc)
is_settled p None Arming y h = (refl, refl)
is_settled p None Running y h = absurd (run_armed (p.ran == 0) Settled (rw y at h) (λ k. absurd cc) (λ k. absurd cc))

run_none : (b : Bool) → cond b Armed Ended ≡ Armed → b ≡ true
run_none true e = refl
run_none false e = absurd cc

is_armed : (p : Progress) (o : Option Refusal) (s : Phase) → p.phase ≡ s → stage_by None p o ≡ Armed → (o ≡ None) × (s ≡ Running) × (p.ran ≡ 0)
is_armed p (Some r) s y h = absurd cc
is_armed p None Commissioning y h = absurd (let z : Fresh ≡ Armed = rw y at h in cc)
is_armed p None Settling y h = absurd (let z : Commissioned ≡ Armed = rw y at h in cc)
is_armed p None Arming y h = absurd (let z : Settled ≡ Armed = rw y at h in cc)
is_armed p None Running y h = (refl, refl, from_eqb p.ran 0 (run_none (p.ran == 0) (rw y at h)))

progress_path : (s s' : Phase) (todo todo' : List Step) (tries tries' sent sent' lost lost' drifts drifts' ran ran' : ℕ) (w w' : Words) (o o' : Option Refusal)
    → s ≡ s' → todo ≡ todo' → tries ≡ tries' → sent ≡ sent' → lost ≡ lost' → drifts ≡ drifts' → ran ≡ ran' → w ≡ w' → o ≡ o'
    → ◌≡◌ {A = Progress} (record { phase = s; todo = todo; tries = tries; sent = sent; lost = lost; drifts = drifts; ran = ran; words = w; refused = o })
    (record { phase = s'; todo = todo'; tries = tries'; sent = sent'; lost = lost'; drifts = drifts'; ran = ran'; words = w'; refused = o' })
progress_path s s' todo todo' tries tries' sent sent' lost lost' drifts drifts' ran ran' w w' o o' a b c d e f g h i = cc

module _ (m : Kept) (es : List Exchange) where
  at_kept : StandsFor None m es → m ≡ kept_at m.config None (progress m.config es)
  unfolding kept_after
  at_kept h = h

  -- Commissioned: before the first settle frame, or behind so many of them
  pub commissioned_pins : StandsFor None m es → m.stage ≡ Commissioned → progress m.config es ≡ resting m Settling []
  commissioned_pins h s =
      let p = progress m.config es in
      let k = at_kept h in
      let i = is_commissioned p p.refused p.phase refl (sym (ap (λ x. x.stage) k) ∙ s) in
      let v = rw (i.0, i.1) at (progress_sound m.config es) in
      progress_path p.phase Settling p.todo [] p.tries 0 p.sent m.sent p.lost m.lost p.drifts m.drifts p.ran 0 p.words m.words p.refused None
      i.1 v.1 v.2 (sym (ap (λ x. x.sent) k)) (sym (ap (λ x. x.lost) k)) (sym (ap (λ x. x.drifts) k)) v.0 (sym (ap (λ x. x.words) k)) i.0

  -- Settled, and only the settle frames were sent: before the first arming frame
  pub settled_pins : StandsFor None m es → m.stage ≡ Settled → m.drifts ≡ settle_frames m.config → progress m.config es ≡ resting m Arming (arm_steps m.words.slaves)
  settled_pins h s d =
      let p = progress m.config es in
      let k = at_kept h in
      let i = is_settled p p.refused p.phase refl (sym (ap (λ x. x.stage) k) ∙ s) in
      let v = rw (i.0, i.1) at (progress_sound m.config es) in
      let w : m.words ≡ p.words = ap (λ x. x.words) k in
      let t = v.2 (sym (ap (λ x. x.drifts) k) ∙ d) in
      progress_path p.phase Arming p.todo (arm_steps m.words.slaves) p.tries 0 p.sent m.sent p.lost m.lost p.drifts m.drifts p.ran 0 p.words m.words p.refused None
      i.1 (t.0 ∙ ap (λ (x : Words). arm_steps x.slaves) (sym w)) t.1 (sym (ap (λ x. x.sent) k)) (sym (ap (λ x. x.lost) k)) (sym (ap (λ x. x.drifts) k)) v.0 (sym w) i.0

  -- Armed: before the first run frame
  pub armed_pins : StandsFor None m es → m.stage ≡ Armed → progress m.config es ≡ resting m Running []
  armed_pins h s =
      let p = progress m.config es in
      let k = at_kept h in
      let i = is_armed p p.refused p.phase refl (sym (ap (λ x. x.stage) k) ∙ s) in
      let v = rw (i.0, i.1) at (progress_sound m.config es) in
      progress_path p.phase Running p.todo [] p.tries 0 p.sent m.sent p.lost m.lost p.drifts m.drifts p.ran 0 p.words m.words p.refused None
      i.1 v.0 v.1 (sym (ap (λ x. x.sent) k)) (sym (ap (λ x. x.lost) k)) (sym (ap (λ x. x.drifts) k)) i.2 (sym (ap (λ x. x.words) k)) i.0
