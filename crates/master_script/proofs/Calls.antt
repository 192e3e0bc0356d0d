-- How many frames a call sends that ends with Ok, and where the next phase begins.
use Rattle.std.proofs.Common.{◌≡◌, ◌≢◌, ℕ, ◌+◌, ◌<◌, ◌≤◌, Bool, true, false, cond, ltb, List, [], ◌∷◌, ◌++◌, length, append_assoc, Option, Some, None, Ok, refl, sym, ap, subst, ◌∙◌, arith}
use Rattle.std.proofs.lemmas.Bool.Decides.{nat_tests}
use Rattle.std.proofs.lemmas.List.{append-nil, length-map, nil_from_length}
use Rattle.ecat_frame.specs.FrameGrammar.{FrameValue}
use Rattle.ecat_link.specs.Exchanges.{Exchange, lost_among}
use Rattle.ecat_link.specs.Serves.{Send, End, Sends}
use Rattle.ecat_link.proofs.Exported.{lost_then}
use Rattle.master_script.specs.Begins.{Begins}
use Rattle.master_script.specs.Config.{ConfigValue, settle_frames}
use Rattle.master_script.specs.Judged.{judged}
use Rattle.master_script.specs.Progress.{Phase, Commissioning, Settling, Arming, Running, Progress, progress, after, asked, answered, noted, done, turned, counted, moved, lost_one}
use Rattle.master_script.specs.Script.{script, Call, Commission, Settle as CallSettle, Arm as CallArm, Run, asks_next, drifts_next, next_in, next_by}
use Rattle.master_script.specs.Slaves.{measuring, clocks}
use Rattle.master_script.specs.Steps.{expected}
use Rattle.master_script.specs.declared.step.Refusal.{Refusal}
use Rattle.master_script.specs.declared.step.Step.{Step}
use Rattle.master_script.specs.declared.step.Step.TheVariants.{Arm}
use Rattle.master_script.proofs.Counts.{after_counts, after_drifts, after_ran, progress_sent, progress_lost}
use Rattle.master_script.proofs.Folds.{progress_push}
use Rattle.master_script.proofs.Pins.{SoundBy, progress_sound}
use Rattle.master_script.proofs.Sendings.{CountedBy, progress_counted}

-- a call wants a frame, and a call ends with Ok
abbrev pub Sending : Call → Progress → Type 0
Sending Commission p = p.phase ≡ Commissioning
Sending CallSettle p = p.phase ≡ Settling
Sending CallArm p = (p.phase ≡ Arming) × (step : Step) × (rest : List Step) × (p.todo ≡ step ∷ rest)
Sending (Run k) p = (p.phase ≡ Running) × (p.ran < k)

abbrev pub Ended : Call → Progress → Type 0
Ended Commission p = p.phase ≡ Commissioning → p.todo ≡ []
Ended CallSettle p = p.phase ≢ Settling
Ended CallArm p = p.phase ≡ Arming → p.todo ≡ []
Ended (Run k) p = p.phase ≡ Running → k ≤ p.ran

from_ltb : (m k : ℕ) → ltb m k ≡ true → m < k
from_ltb m k h = grind (arith, nat_tests)

not_ltb : (m k : ℕ) → ltb m k ≡ false → k ≤ m
not_ltb m k h = grind (arith, nat_tests)

module _ (cfg : ConfigValue) (p : Progress) (wait_ns : ℕ) (frame : FrameValue) where
  arms_some : (todo : List Step) → p.todo ≡ todo → asks_next cfg p todo ≡ Send wait_ns frame → (step : Step) × (rest : List Step) × (p.todo ≡ step ∷ rest)
  arms_some [] t h = absurd cc
  arms_some (step ∷ rest) t h = (step, rest, t)

  runs_less : (k : ℕ) (b : Bool) → ltb p.ran k ≡ b → cond b (drifts_next cfg p) (End (Ok tt)) ≡ Send wait_ns frame → p.ran < k
  runs_less k true l h = from_ltb p.ran k l
  runs_less k false l h = absurd cc

  sending_in : (call : Call) (s : Phase) → p.phase ≡ s → next_in cfg p call s ≡ Send wait_ns frame → Sending call p
  sending_in Commission Commissioning e h = e
  sending_in CallSettle Settling e h = e
  sending_in CallArm Arming e h = let a = arms_some p.todo refl h in (e, a.0, a.1, a.2)
  sending_in (Run k) Running e h = (e, runs_less k (ltb p.ran k) refl h)
  sending_in call s e h = absurd cc

  sending_by : (call : Call) (o : Option Refusal) → p.refused ≡ o → next_by cfg p call o ≡ Send wait_ns frame → (p.refused ≡ None) × Sending call p
  sending_by call (Some r) e h = absurd cc
  sending_by call None e h = (e, sending_in call p.phase refl h)

sending : (cfg : ConfigValue) (call : Call) (es : List Exchange) (wait_ns : ℕ) (frame : FrameValue) → script cfg call es ≡ Send wait_ns frame → ((progress cfg es).refused ≡ None) × Sending call (progress cfg es)
unfolding script
sending cfg call es wait_ns frame h = sending_by cfg (progress cfg es) wait_ns frame call (progress cfg es).refused refl h

ends_asking : (cfg : ConfigValue) (p : Progress) (todo : List Step) → p.todo ≡ todo → asks_next cfg p todo ≡ End (Ok tt) → p.todo ≡ []
ends_asking cfg p [] t h = t
ends_asking cfg p (step ∷ rest) t h = absurd cc

ends_running : (cfg : ConfigValue) (p : Progress) (k : ℕ) (b : Bool) → ltb p.ran k ≡ b → cond b (drifts_next cfg p) (End (Ok tt)) ≡ End (Ok tt) → k ≤ p.ran
ends_running cfg p k true l h = absurd cc
ends_running cfg p k false l h = not_ltb p.ran k l

ends_commission : (cfg : ConfigValue) (p : Progress) (s : Phase) → next_in cfg p Commission s ≡ End (Ok tt) → s ≡ Commissioning → p.todo ≡ []
ends_commission cfg p Commissioning h e = ends_asking cfg p p.todo refl h
ends_commission cfg p Settling h e = absurd cc
ends_commission cfg p Arming h e = absurd cc
ends_commission cfg p Running h e = absurd cc

ends_settle : (cfg : ConfigValue) (p : Progress) (s : Phase) → next_in cfg p CallSettle s ≡ End (Ok tt) → s ≢ Settling
ends_settle cfg p Commissioning h e = absurd cc
ends_settle cfg p Settling h e = absurd cc
ends_settle cfg p Arming h e = absurd cc
ends_settle cfg p Running h e = absurd cc

ends_arm : (cfg : ConfigValue) (p : Progress) (s : Phase) → next_in cfg p CallArm s ≡ End (Ok tt) → s ≡ Arming → p.todo ≡ []
ends_arm cfg p Commissioning h e = absurd cc
ends_arm cfg p Settling h e = absurd cc
ends_arm cfg p Arming h e = ends_asking cfg p p.todo refl h
ends_arm cfg p Running h e = absurd cc

ends_run : (cfg : ConfigValue) (p : Progress) (k : ℕ) (s : Phase) → next_in cfg p (Run k) s ≡ End (Ok tt) → s ≡ Running → k ≤ p.ran
ends_run cfg p k Commissioning h e = absurd cc
ends_run cfg p k Settling h e = absurd cc
ends_run cfg p k Arming h e = absurd cc
ends_run cfg p k Running h e = ends_running cfg p k (ltb p.ran k) refl h

ended_by : (cfg : ConfigValue) (p : Progress) (call : Call) (o : Option Refusal) → p.refused ≡ o → next_by cfg p call o ≡ End (Ok tt) → (p.refused ≡ None) × Ended call p
ended_by cfg p call (Some r) e h = absurd cc
ended_by cfg p Commission None e h = (e, ends_commission cfg p p.phase h)
ended_by cfg p CallSettle None e h = (e, ends_settle cfg p p.phase h)
ended_by cfg p CallArm None e h = (e, ends_arm cfg p p.phase h)
ended_by cfg p (Run k) None e h = (e, ends_run cfg p k p.phase h)

ended : (cfg : ConfigValue) (call : Call) (es : List Exchange) → script cfg call es ≡ End (Ok tt) → ((progress cfg es).refused ≡ None) × Ended call (progress cfg es)
unfolding script
ended cfg call es h = ended_by cfg (progress cfg es) call (progress cfg es).refused refl h

-- what each sending of a call keeps, as the number of them rises
walks : (cfg : ConfigValue) (call : Call) (P : Progress → ℕ → Type 0)
    → ((es : List Exchange) (e : Exchange) (k : ℕ) → (progress cfg es).refused ≡ None → Sending call (progress cfg es) → P (progress cfg es) k → P (after cfg (progress cfg es) e) (k + 1))
    → (before more : List Exchange) (k : ℕ) → P (progress cfg before) k → Sends (script cfg call) before more → P (progress cfg (before ++ more)) (k + length more)
walks cfg call P step before [] k h s =
    let z : k ≡ k + length {A = Exchange} [] = omega arith in
    subst (λ n. P (progress cfg (before ++ [])) n) z (subst (λ b. P (progress cfg b) k) (sym (append-nil before)) h)
walks cfg call P step before (e ∷ es) k h s =
    let w = sending cfg call before e.wait_ns e.sent s.0 in
    let one = subst (λ p. P p (k + 1)) (sym (progress_push cfg before e)) (step before e k w.0 w.1 h) in
    let z : k + 1 + length es ≡ k + length (e ∷ es) = omega arith in
    subst (λ n. P (progress cfg (before ++ e ∷ es)) n) z
    (subst (λ b. P (progress cfg b) (k + 1 + length es)) (append_assoc before (e ∷ []) es) (walks cfg call P step (before ++ e ∷ []) es (k + 1) one s.1))

walk : (cfg : ConfigValue) (call : Call) (P : Progress → ℕ → Type 0)
    → ((es : List Exchange) (e : Exchange) (k : ℕ) → (progress cfg es).refused ≡ None → Sending call (progress cfg es) → P (progress cfg es) k → P (after cfg (progress cfg es) e) (k + 1))
    → (before more : List Exchange) → P (progress cfg before) 0 → Sends (script cfg call) before more → P (progress cfg (before ++ more)) (length more)
walk cfg call P step before more h s =
    let z : 0 + length more ≡ length more = omega arith in subst (λ n. P (progress cfg (before ++ more)) n) z (walks cfg call P step before more 0 h s)

-- what holds of an unrefused progress
sound_of : (cfg : ConfigValue) (es : List Exchange) → (progress cfg es).refused ≡ None → SoundBy cfg (progress cfg es) None (progress cfg es).phase
sound_of cfg es n = subst (λ o. SoundBy cfg (progress cfg es) o (progress cfg es).phase) n (progress_sound cfg es)

counted_of : (cfg : ConfigValue) (es : List Exchange) → (progress cfg es).refused ≡ None → CountedBy (length cfg.kinds) (progress cfg es) None (progress cfg es).phase
counted_of cfg es n = subst (λ o. CountedBy (length cfg.kinds) (progress cfg es) o (progress cfg es).phase) n (progress_counted cfg es)

-- commission
pub record Commissions (cfg : ConfigValue) (p : Progress) : Type 0 where
  pub begins : Begins cfg Settling p
  pub sent : p.sent ≡ length cfg.kinds + length (measuring p.words.slaves) + length (clocks p.words.slaves) + 3 + p.lost

commission_ends : (cfg : ConfigValue) (p : Progress) (s : Phase) → p.phase ≡ s → p.refused ≡ None → p.drifts ≡ 0 → (s ≡ Commissioning → p.todo ≡ []) → SoundBy cfg p None s → CountedBy (length cfg.kinds) p None s → Commissions cfg p
commission_ends cfg p Commissioning e n d t h c = let l = ap (λ x. length x) (t refl) in let a = c.0 in absurd (omega (arith, l, a))
commission_ends cfg p Settling e n d t h c = let a = c d in record {
  begins = record { phase_is = e; unrefused = n; todo = h.1; drifts = d; ran = h.0 };
  sent = omega (arith, a);
}
commission_ends cfg p Arming e n d t h c = let a = h.1 in absurd (omega (arith, a, d))
commission_ends cfg p Running e n d t h c = let a = h.2 in absurd (omega (arith, a, d))

no_drifts : (cfg : ConfigValue) (es : List Exchange) → Sends (script cfg Commission) [] es → (progress cfg es).drifts ≡ 0
unfolding progress
no_drifts cfg es s =
    walk cfg Commission (λ p k. p.drifts ≡ 0)
    (λ es e k n w h. after_drifts cfg (progress cfg es) e ∙ rw w (omega (arith, h)))
    [] es refl s

pub commission_sends : (cfg : ConfigValue) (es : List Exchange) → Sends (script cfg Commission) [] es → script cfg Commission es ≡ End (Ok tt) → Commissions cfg (progress cfg es)
commission_sends cfg es s h =
    let w = ended cfg Commission es h in
    commission_ends cfg (progress cfg es) (progress cfg es).phase refl w.0 (no_drifts cfg es s) w.1 (sound_of cfg es w.0) (counted_of cfg es w.0)

-- settle
settle_step : (cfg : ConfigValue) (p : Progress) (s : Phase) → s ≡ Settling → SoundBy cfg p None s → p.drifts < settle_frames cfg
settle_step cfg p Commissioning e h = absurd cc
settle_step cfg p Settling e h = h.3
settle_step cfg p Arming e h = absurd cc
settle_step cfg p Running e h = absurd cc

settled_walk : (cfg : ConfigValue) (before more : List Exchange) → Begins cfg Settling (progress cfg before) → Sends (script cfg CallSettle) before more → ((progress cfg (before ++ more)).drifts ≡ length more) × ((progress cfg (before ++ more)).drifts ≤ settle_frames cfg)
settled_walk cfg before more b s =
    let d = b.drifts in
    walk cfg CallSettle (λ p k. (p.drifts ≡ k) × (p.drifts ≤ settle_frames cfg))
    (λ es e k n w h.
    let a : (after cfg (progress cfg es) e).drifts ≡ (progress cfg es).drifts + 1 = after_drifts cfg (progress cfg es) e ∙ rw w refl in
    let l = settle_step cfg (progress cfg es) (progress cfg es).phase w (sound_of cfg es n) in
    let c = h.0 in
    (omega (arith, a, c), omega (arith, a, l)))
    before more (d, omega (arith, d)) s

settle_ends : (cfg : ConfigValue) (p : Progress) (s : Phase) (sent : ℕ) → p.phase ≡ s → p.refused ≡ None → s ≢ Settling → (sent ≡ 0 → s ≡ Settling) → p.drifts ≡ sent → p.drifts ≤ settle_frames cfg → SoundBy cfg p None s → Begins cfg Arming p × (sent ≡ settle_frames cfg)
settle_ends cfg p Commissioning sent e n x z d l h = let a = h.1 in absurd (x (z (omega (arith, a, d))))
settle_ends cfg p Settling sent e n x z d l h = absurd (x refl)
settle_ends cfg p Arming sent e n x z d l h =
    let a = h.1 in
    let f : p.drifts ≡ settle_frames cfg = omega (arith, a, l) in
    (record { phase_is = e; unrefused = n; todo = (h.2 f).0; drifts = f; ran = h.0 }, omega (arith, f, d))
settle_ends cfg p Running sent e n x z d l h = let a = h.2 in absurd (omega (arith, a, l))

pub settle_sends : (cfg : ConfigValue) (before more : List Exchange) → Begins cfg Settling (progress cfg before) → Sends (script cfg CallSettle) before more → script cfg CallSettle (before ++ more) ≡ End (Ok tt)
    → Begins cfg Arming (progress cfg (before ++ more)) × (length more ≡ settle_frames cfg)
settle_sends cfg before more b s h =
    let q = progress cfg (before ++ more) in
    let w = ended cfg CallSettle (before ++ more) h in
    let d = settled_walk cfg before more b s in
    settle_ends cfg q q.phase (length more) refl w.0 w.1
    (λ z. let e = nil_from_length more z in ap (λ (x : List Exchange). (progress cfg (before ++ x)).phase) e ∙ ap (λ (x : List Exchange). (progress cfg x).phase) (append-nil before) ∙ b.phase_is)
    d.0 d.1 (sound_of cfg (before ++ more) w.0)

-- arm
turned_todo : (p : Progress) (rest : List Step) → p.phase ≡ Arming → p.todo ≡ rest → (turned p rest).todo ≡ rest
turned_todo p [] e t = by_phase p.phase e
  where
    by_phase : (s : Phase) → s ≡ Arming → (done p s p.words.reference).todo ≡ []
    by_phase Commissioning e = absurd cc
    by_phase Settling e = absurd cc
    by_phase Arming e = t
    by_phase Running e = absurd cc
turned_todo p (next ∷ rest) e t = t

answered_todo : (p : Progress) (step : Step) (rest : List Step) (f : FrameValue) (o : Option Refusal) → p.phase ≡ Arming → (answered p step rest f o).refused ≡ None → (answered p step rest f o).todo ≡ rest
answered_todo p step rest f (Some r) e n = absurd cc
answered_todo p step rest f None e n = turned_todo (noted p step rest f) rest e refl

asked_todo : (cfg : ConfigValue) (p : Progress) (sent : FrameValue) (back : Option FrameValue) (step : Step) (rest : List Step) → p.phase ≡ Arming → p.todo ≡ step ∷ rest → (asked cfg p sent back (step ∷ rest)).refused ≡ None
    → length (asked cfg p sent back (step ∷ rest)).todo + 1 ≡ length p.todo + lost_one back
asked_todo cfg p sent None step rest e t n = omega arith
asked_todo cfg p sent (Some f) step rest e t n =
    let a = ap (λ x. length x) (answered_todo p step rest f (judged step (expected cfg p.words step f) sent f) e n) in
    let b = ap (λ x. length x) t in
    omega (arith, a, b)

moved_todo : (cfg : ConfigValue) (p : Progress) (sent : FrameValue) (back : Option FrameValue) (step : Step) (rest todo : List Step) (o : Option Refusal) (s : Phase) → o ≡ None → s ≡ Arming → p.phase ≡ Arming → p.todo ≡ todo → todo ≡ step ∷ rest
    → (moved cfg (counted p back) sent back o s).refused ≡ None → length (moved cfg (counted p back) sent back o s).todo + 1 ≡ length p.todo + lost_one back
moved_todo cfg p sent back step rest todo (Some r) s x y e t u n = absurd cc
moved_todo cfg p sent back step rest todo None Commissioning x y e t u n = absurd cc
moved_todo cfg p sent back step rest todo None Settling x y e t u n = absurd cc
moved_todo cfg p sent back step rest todo None Arming x y e t u n =
    let v = t ∙ u in
    let z : asked cfg (counted p back) sent back p.todo ≡ asked cfg (counted p back) sent back (step ∷ rest) = ap (λ k. asked cfg (counted p back) sent back k) v in
    ap (λ (q : Progress). length q.todo + 1) z ∙ asked_todo cfg (counted p back) sent back step rest e v (ap (λ (q : Progress). q.refused) (sym z) ∙ n)
moved_todo cfg p sent back step rest todo None Running x y e t u n = absurd cc

after_todo : (cfg : ConfigValue) (p : Progress) (e : Exchange) (step : Step) (rest : List Step) → p.refused ≡ None → p.phase ≡ Arming → p.todo ≡ step ∷ rest → (after cfg p e).refused ≡ None → length (after cfg p e).todo + 1 ≡ length p.todo + lost_one e.back
unfolding after
after_todo cfg p e step rest n s t h = moved_todo cfg p e.sent e.back step rest p.todo p.refused p.phase n s s refl t h

-- so many drift frames and run frames were sent, and as long as nothing is refused, so many steps are left
record Armed (cfg : ConfigValue) (lost : ℕ) (steps : ℕ) (p : Progress) (k : ℕ) : Type 0 where
  drifts : settle_frames cfg ≤ p.drifts
  ran : p.ran ≡ 0
  left : p.refused ≡ None → k + length p.todo + lost ≡ steps + p.lost

arms_walk : (cfg : ConfigValue) (before more : List Exchange) → Begins cfg Arming (progress cfg before) → Sends (script cfg CallArm) before more
    → Armed cfg (progress cfg before).lost (length (progress cfg before).todo) (progress cfg (before ++ more)) (length more)
arms_walk cfg before more b s =
    let p = progress cfg before in
    let d = b.drifts in
    walk cfg CallArm (λ q k. Armed cfg p.lost (length p.todo) q k)
    (λ es e k n w h.
    let a = after_drifts cfg (progress cfg es) e in
    let c = (after_counts cfg (progress cfg es) e).1 in
    let g = h.drifts in
    record {
      drifts = omega (arith, a, g);
      ran = after_ran cfg (progress cfg es) e ∙ rw (w.0) (let r = h.ran in omega (arith, r));
      left = λ u.
          let l = h.left n in
          let t = after_todo cfg (progress cfg es) e w.1 w.2 n w.0 w.3 u in
          omega (arith, l, t, c);
    })
    before more (record { drifts = omega (arith, d); ran = b.ran; left = λ u. omega arith }) s

arm_ends : (cfg : ConfigValue) (p : Progress) (s : Phase) → p.phase ≡ s → p.refused ≡ None → (s ≡ Arming → p.todo ≡ []) → settle_frames cfg ≤ p.drifts → p.ran ≡ 0 → SoundBy cfg p None s → CountedBy (length cfg.kinds) p None s → Begins cfg Running p
arm_ends cfg p Commissioning e n t d r h c = let a = h.1 in absurd (omega (arith, a, d))
arm_ends cfg p Settling e n t d r h c = let a = h.3 in absurd (omega (arith, a, d))
arm_ends cfg p Arming e n t d r h c = let l = ap (λ x. length x) (t refl) in absurd (omega (arith, l, c))
arm_ends cfg p Running e n t d r h c = record { phase_is = e; unrefused = n; todo = h.0; drifts = tt; ran = r }

pub arm_sends : (cfg : ConfigValue) (before more : List Exchange) → Begins cfg Arming (progress cfg before) → Sends (script cfg CallArm) before more → script cfg CallArm (before ++ more) ≡ End (Ok tt)
    → Begins cfg Running (progress cfg (before ++ more)) × (length more ≡ length (clocks (progress cfg before).words.slaves) + lost_among more)
arm_sends cfg before more b s h =
    let p = progress cfg before in
    let q = progress cfg (before ++ more) in
    let w = ended cfg CallArm (before ++ more) h in
    let a = arms_walk cfg before more b s in
    let r = arm_ends cfg q q.phase refl w.0 w.1 a.drifts a.ran (sound_of cfg (before ++ more) w.0) (counted_of cfg (before ++ more) w.0) in
    let l = a.left w.0 in
    let t = ap (λ x. length x) r.todo in
    let u = ap (λ x. length x) b.todo in
    let c = length-map (clocks p.words.slaves) Arm in
    let x = progress_lost cfg before in
    let y = progress_lost cfg (before ++ more) in
    let z = lost_then before more in
    (r, omega (arith, l, t, u, c, x, y, z))

-- run
moved_running : (cfg : ConfigValue) (p : Progress) (sent : FrameValue) (back : Option FrameValue) (o : Option Refusal) (s : Phase) → s ≡ Running → p.phase ≡ Running → (moved cfg p sent back o s).phase ≡ Running
moved_running cfg p sent back (Some r) s x e = e
moved_running cfg p sent back None Commissioning x e = absurd cc
moved_running cfg p sent back None Settling x e = absurd cc
moved_running cfg p sent back None Arming x e = absurd cc
moved_running cfg p sent None None Running x e = e
moved_running cfg p sent (Some f) None Running x e = e

after_running : (cfg : ConfigValue) (p : Progress) (e : Exchange) → p.phase ≡ Running → (after cfg p e).phase ≡ Running
unfolding after
after_running cfg p e s = moved_running cfg (counted p e.back) e.sent e.back p.refused p.phase s s

runs_walk : (cfg : ConfigValue) (frames : ℕ) (before more : List Exchange) → Begins cfg Running (progress cfg before) → Sends (script cfg (Run frames)) before more
    → ((progress cfg (before ++ more)).phase ≡ Running) × ((progress cfg (before ++ more)).ran ≡ length more) × ((progress cfg (before ++ more)).ran ≤ frames)
runs_walk cfg frames before more b s =
    let r = b.ran in
    walk cfg (Run frames) (λ p k. (p.phase ≡ Running) × (p.ran ≡ k) × (p.ran ≤ frames))
    (λ es e k n w h.
    let a : (after cfg (progress cfg es) e).ran ≡ (progress cfg es).ran + 1 = after_ran cfg (progress cfg es) e ∙ rw (w.0) refl in
    let l = w.1 in
    let c = h.1 in
    (after_running cfg (progress cfg es) e w.0, omega (arith, a, c), omega (arith, a, l)))
    before more (b.phase_is, r, omega (arith, r)) s

pub run_sends : (cfg : ConfigValue) (frames : ℕ) (before more : List Exchange) → Begins cfg Running (progress cfg before) → Sends (script cfg (Run frames)) before more → script cfg (Run frames) (before ++ more) ≡ End (Ok tt) → length more ≡ frames
run_sends cfg frames before more b s h =
    let w = (ended cfg (Run frames) (before ++ more) h).1 in
    let g = runs_walk cfg frames before more b s in
    let k = w g.0 in
    let r = g.1 in
    let l = g.2 in
    omega (arith, k, r, l)

pub commission_done : (cfg : ConfigValue) (es : List Exchange) → Sends (script cfg Commission) [] es → script cfg Commission es ≡ End (Ok tt)
    → Begins cfg Settling (progress cfg es) × (length es ≡ length cfg.kinds + length (measuring (progress cfg es).words.slaves) + length (clocks (progress cfg es).words.slaves) + 3 + lost_among es)
commission_done cfg es s h =
    let a = commission_sends cfg es s h in
    let b = a.sent in
    let c = progress_sent cfg es in
    let d = progress_lost cfg es in
    (a.begins, omega (arith, b, c, d))

pub fresh_begins : (cfg : ConfigValue) → Begins cfg Commissioning (progress cfg [])
unfolding progress
fresh_begins cfg = record { phase_is = refl; unrefused = refl; todo = refl; drifts = refl; ran = refl }
