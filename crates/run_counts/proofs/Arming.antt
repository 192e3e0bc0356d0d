-- Arming: which step its exchanges have come to, by the list of losses.
use Rattle.std.proofs.Common.{◌≡◌, ℕ, ◌+◌, ◌*◌, ◌≤◌, Bool, true, false, cond, eqb, ◌==◌, List, [], ◌∷◌, length, Option, Some, None, is_none, refl, sym, ap, subst, ◌∙◌, arith}
use Rattle.ecat_frame.specs.FrameGrammar.{FrameValue}
use Rattle.ecat_link.specs.Exchanges.{Exchange}
use Rattle.master_script.specs.Config.{ConfigValue}
use Rattle.master_script.specs.Judged.{judged}
use Rattle.master_script.specs.Progress.{Phase, Commissioning, Settling, Arming, Running, Progress, after, asked as asked_of, answered, noted, done, missed, lost_at, counted, moved}
use Rattle.master_script.specs.Steps.{expected}
use Rattle.master_script.specs.declared.step.Refusal.{Refusal}
use Rattle.master_script.specs.declared.step.Refusal.TheVariants.{Lost}
use Rattle.master_script.specs.declared.step.Step.{Step}
use Rattle.run_counts.specs.Arming.{ArmsBy, StandsArming}
use Rattle.run_counts.specs.Reached.{Reached}
use Rattle.run_counts.proofs.Replies.{judged_other}
use Rattle.run_counts.proofs.Tries.{missed_once, missed_thrice, came, all_came, not_three, is_three}

module _ (lost : ℕ → Bool) (begin : ℕ) (all : List Step) where
  few_of : (step : Step) (rest : List Step) (number tries : ℕ) → Reached lost begin all (step ∷ rest) number tries → number + 1 ≤ begin + 3 * length all
  few_of step rest number tries h = let i = h.is in let f = h.few in let m = h.most in omega (arith, i, f, m)

  -- a step is lost once more; p is counted already
  lost_more : (p : Progress) (step : Step) (rest : List Step) (b : Bool) → eqb (p.tries + 1) 3 ≡ b → p.todo ≡ step ∷ rest → Reached lost begin all (step ∷ rest) p.drifts p.tries
      → lost p.drifts ≡ true → ArmsBy lost begin all (missed p step) (cond b (Some (Lost step)) None) Arming
  lost_more p step rest true three t h now = record {
    lost_step = missed_thrice lost begin all step rest p.drifts p.tries h now (is_three p.tries three);
    few = few_of step rest p.drifts p.tries h;
  }
  lost_more p step rest false three t h now =
      subst (λ (todo : List Step). Reached lost begin all todo (p.drifts + 1) (p.tries + 1)) (sym t)
      (missed_once lost begin all (step ∷ rest) p.drifts p.tries h now (not_three p.tries three h.few))

  -- a step came and was judged
  came_arms : (p : Progress) (step : Step) (rest : List Step) (f : FrameValue) (es : List ℕ) (sent : FrameValue) (o : Option Refusal) → judged step es sent f ≡ o → p.refused ≡ None → p.phase ≡ Arming
      → Reached lost begin all (step ∷ rest) p.drifts p.tries → lost p.drifts ≡ false → StandsArming lost begin all (answered p step rest f o)
  came_arms p step rest f es sent (Some r) is e s h now = record { lost_step = judged_other step es sent f r _ is; few = few_of step rest p.drifts p.tries h }
  came_arms p step [] f es sent None is e s h now =
      let q = noted p step [] f in
      subst (λ (x : Phase). StandsArming lost begin all (done q x q.words.reference)) (sym s)
      (subst (λ (o : Option Refusal). ArmsBy lost begin all (done q Arming q.words.reference) o Running) (sym e)
      (record { came = all_came lost begin all (p.drifts + 1) (came lost begin all step [] p.drifts p.tries h now) }))
  came_arms p step (next ∷ others) f es sent None is e s h now =
      let q = noted p step (next ∷ others) f in
      subst (λ (o : Option Refusal). ArmsBy lost begin all q o p.phase) (sym e)
      (subst (λ (x : Phase). ArmsBy lost begin all q None x) (sym s) (came lost begin all step (next ∷ others) p.drifts p.tries h now))

  asked_arms : (cfg : ConfigValue) (p : Progress) (sent : FrameValue) (back : Option FrameValue) (step : Step) (rest : List Step) → p.refused ≡ None → p.phase ≡ Arming → p.todo ≡ step ∷ rest
      → Reached lost begin all (step ∷ rest) p.drifts p.tries → lost p.drifts ≡ is_none back → StandsArming lost begin all (asked_of cfg p sent back (step ∷ rest))
  asked_arms cfg p sent None step rest e s t h now =
      subst (λ (x : Phase). ArmsBy lost begin all (missed p step) (lost_at step (p.tries + 1)) x) (sym s) (lost_more p step rest (p.tries + 1 == 3) refl t h now)
  asked_arms cfg p sent (Some f) step rest e s t h now =
      came_arms p step rest f (expected cfg p.words step f) sent (judged step (expected cfg p.words step f) sent f) refl e s h now

  moved_arms : (cfg : ConfigValue) (p : Progress) (sent : FrameValue) (back : Option FrameValue) (o : Option Refusal) (s : Phase) (step : Step) (rest : List Step) → p.refused ≡ o → p.phase ≡ s → o ≡ None → s ≡ Arming → p.todo ≡ step ∷ rest
      → Reached lost begin all p.todo (p.drifts + 1) p.tries → lost (p.drifts + 1) ≡ is_none back → StandsArming lost begin all (moved cfg (counted p back) sent back o s)
  moved_arms cfg p sent back (Some r) s step rest e g x y t h now = absurd cc
  moved_arms cfg p sent back None Commissioning step rest e g x y t h now = absurd cc
  moved_arms cfg p sent back None Settling step rest e g x y t h now = absurd cc
  moved_arms cfg p sent back None Running step rest e g x y t h now = absurd cc
  moved_arms cfg p sent back None Arming step rest e g x y t h now =
      let q = counted p back in
      let d : q.drifts ≡ p.drifts + 1 = rw g refl in
      subst (λ (todo : List Step). StandsArming lost begin all (asked_of cfg q sent back todo)) (sym t)
      (asked_arms cfg q sent back step rest e g t
      (subst (λ (n : ℕ). Reached lost begin all (step ∷ rest) n p.tries) (sym d) (subst (λ (todo : List Step). Reached lost begin all todo (p.drifts + 1) p.tries) t h))
      (ap lost d ∙ now))

  pub after_arms : (cfg : ConfigValue) (p : Progress) (e : Exchange) (step : Step) (rest : List Step) → p.refused ≡ None → p.phase ≡ Arming → p.todo ≡ step ∷ rest
      → Reached lost begin all p.todo (p.drifts + 1) p.tries → lost (p.drifts + 1) ≡ is_none e.back → StandsArming lost begin all (after cfg p e)
  unfolding after
  after_arms cfg p e step rest n s t h now = moved_arms cfg p e.sent e.back p.refused p.phase step rest refl refl n s t h now
