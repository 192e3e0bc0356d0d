-- Commissioning: which step its exchanges have come to, by the list of losses.
use Rattle.std.proofs.Common.{◌≡◌, ℕ, ◌+◌, ◌*◌, ◌≤◌, Bool, true, false, cond, eqb, ◌==◌, List, [], ◌∷◌, ◌++◌, length, Option, Some, None, is_none, Result, Ok, Err, refl, sym, ap, subst, ◌∙◌, arith}
use Rattle.std.specs.List.{AllByRecursion}
use Rattle.ecat_frame.specs.FrameGrammar.{FrameValue}
use Rattle.ecat_link.specs.Exchanges.{Exchange}
use Rattle.master_script.specs.Config.{ConfigValue}
use Rattle.master_script.specs.Judged.{judged}
use Rattle.master_script.specs.Progress.{Phase, Commissioning, Settling, Arming, Running, Progress, beginning, first_steps, later_steps, after, asked as asked_of, answered, noted, done, planned, missed, lost_at, counted, moved}
use Rattle.master_script.specs.Slaves.{SlaveWords, judgement}
use Rattle.master_script.specs.Steps.{expected, learned}
use Rattle.master_script.specs.Words.{Words}
use Rattle.master_script.specs.declared.step.Refusal.{Refusal}
use Rattle.master_script.specs.declared.step.Refusal.TheVariants.{Lost}
use Rattle.master_script.specs.declared.step.Step.{Step}
use Rattle.master_script.specs.declared.step.Step.TheVariants.{Identify}
use Rattle.master_script.proofs.Exported.{one_identify, identifies, later_none, learned_reference}
use Rattle.run_counts.specs.Commissioning.{Asks, IsLate, IsOther, Stands, StandsBy, known_of, steps_known}
use Rattle.run_counts.specs.Reached.{Reached}
use Rattle.run_counts.proofs.Replies.{judged_other, judgement_other}
use Rattle.run_counts.proofs.Tries.{begins, missed_once, missed_thrice, came, goes_on, all_came, not_three, is_three}

pub beginning_stands : (lost : ℕ → Bool) (cfg : ConfigValue) → Stands lost cfg (beginning cfg)
beginning_stands lost cfg = record { drifts = refl; reached = begins lost 1 (first_steps cfg); late = tt }

few_of : (lost : ℕ → Bool) (all : List Step) (step : Step) (rest : List Step) (number tries : ℕ) → Reached lost 1 all (step ∷ rest) number tries → number ≤ 3 * length all
few_of lost all step rest number tries h = let i = h.is in let f = h.few in let m = h.most in omega (arith, i, f, m)

-- what a step teaches leaves the known steps
kept_slaves : (n : ℕ) (step : Step) (f : FrameValue) (w : Words) → IsOther step → (learned n step f w).slaves ≡ w.slaves
kept_slaves n (Identify p) f w e = absurd e
kept_slaves n step f w e = refl

known_kept : (cfg : ConfigValue) (n : ℕ) (step : Step) (rest : List Step) (f : FrameValue) (w : Words) → IsLate w.reference (step ∷ rest)
    → steps_known cfg (learned n step f w).slaves (learned n step f w).reference ≡ steps_known cfg w.slaves w.reference
known_kept cfg n step rest f w late =
    ap (steps_known cfg (learned n step f w).slaves) (learned_reference n step f w) ∙ by_reference w.reference late
  where
    by_reference : (o : Option ℕ) → IsLate o (step ∷ rest) → steps_known cfg (learned n step f w).slaves o ≡ steps_known cfg w.slaves o
    by_reference None l = refl
    by_reference (Some r) l = ap (λ (ss : List SlaveWords). first_steps cfg ++ later_steps ss) (kept_slaves n step f w l.0)

late_on : (o : Option ℕ) (step : Step) (rest : List Step) → IsLate o (step ∷ rest) → IsLate o rest
late_on None step rest l = tt
late_on (Some r) step rest l = l.1

-- none of the steps behind the judgement identifies a slave
other_of : (step : Step) → one_identify step ≡ 0 → IsOther step
other_of (Identify p) e = absurd (omega (arith, e))
other_of step e = tt

others_of : (steps : List Step) → identifies steps ≡ 0 → AllByRecursion IsOther steps
others_of [] e = tt
others_of (step ∷ rest) e = (other_of step (omega (arith, e)), others_of rest (omega (arith, e)))

module _ (lost : ℕ → Bool) (cfg : ConfigValue) where
  -- a step is lost once more; p is counted already
  lost_more : (p : Progress) (step : Step) (rest : List Step) (b : Bool) → eqb (p.tries + 1) 3 ≡ b → p.todo ≡ step ∷ rest → p.drifts ≡ 0 → Reached lost 1 (known_of cfg p) (step ∷ rest) p.sent p.tries
      → IsLate p.words.reference (step ∷ rest) → lost p.sent ≡ true → StandsBy lost cfg (missed p step) (cond b (Some (Lost step)) None) Commissioning
  lost_more p step rest true three t d h l now = record {
    lost_step = missed_thrice lost 1 (known_of cfg p) step rest p.sent p.tries h now (is_three p.tries three);
    few = few_of lost (known_of cfg p) step rest p.sent p.tries h;
  }
  lost_more p step rest false three t d h l now = record {
    drifts = d;
    reached = subst (λ (todo : List Step). Reached lost 1 (known_of cfg p) todo (p.sent + 1) (p.tries + 1)) (sym t)
        (missed_once lost 1 (known_of cfg p) (step ∷ rest) p.sent p.tries h now (not_three p.tries three h.few));
    late = subst (λ (todo : List Step). IsLate p.words.reference todo) (sym t) l;
  }

  -- the slaves are judged
  judged_stands : (p : Progress) (j : Result ℕ Refusal) → judgement p.words.slaves ≡ j → p.refused ≡ None → p.phase ≡ Commissioning → p.words.reference ≡ None → p.tries ≡ 0 → p.drifts ≡ 0
      → Reached lost 1 (first_steps cfg) [] (p.sent + 1) 0 → Stands lost cfg (planned p j)
  judged_stands p (Err r) is e s none z d h = record {
    lost_step = judgement_other p.words.slaves r _ is;
    few = subst (λ (o : Option ℕ). p.sent ≤ 3 * length (steps_known cfg p.words.slaves o)) (sym none) (let i = h.is in let m = h.most in omega (arith, i, m));
  }
  judged_stands p (Ok x) is e s none z d h =
      let q = planned p (Ok x) in
      subst (λ (o : Option Refusal). StandsBy lost cfg q o p.phase) (sym e)
      (subst (λ (x : Phase). StandsBy lost cfg q None x) (sym s)
      (record {
        drifts = d;
        reached = subst (λ (k : ℕ). Reached lost 1 (first_steps cfg ++ later_steps p.words.slaves) (later_steps p.words.slaves) (p.sent + 1) k) (sym z)
            (goes_on lost 1 (first_steps cfg) (later_steps p.words.slaves) (p.sent + 1) h);
        late = others_of (later_steps p.words.slaves) (later_none p.words.slaves);
      }))

  -- the last step that was known came
  done_stands : (p : Progress) (o : Option ℕ) → p.words.reference ≡ o → p.refused ≡ None → p.phase ≡ Commissioning → p.tries ≡ 0 → p.drifts ≡ 0
      → Reached lost 1 (steps_known cfg p.words.slaves o) [] (p.sent + 1) 0 → Stands lost cfg (done p Commissioning o)
  done_stands p None none e s z d h = judged_stands p (judgement p.words.slaves) refl e s none z d h
  done_stands p (Some r) some e s z d h =
      subst (λ (o : Option Refusal). StandsBy lost cfg (done p Commissioning (Some r)) o Settling) (sym e)
      (record { drifts = d; all = all_came lost 1 (first_steps cfg ++ later_steps p.words.slaves) (p.sent + 1) h; judged = (r, some) })

  -- a step came and was judged
  came_stands : (p : Progress) (step : Step) (rest : List Step) (f : FrameValue) (es : List ℕ) (sent : FrameValue) (o : Option Refusal) → judged step es sent f ≡ o → p.refused ≡ None → p.phase ≡ Commissioning → p.drifts ≡ 0
      → Reached lost 1 (known_of cfg p) (step ∷ rest) p.sent p.tries → IsLate p.words.reference (step ∷ rest) → lost p.sent ≡ false → Stands lost cfg (answered p step rest f o)
  came_stands p step rest f es sent (Some r) is e s d h l now = record {
    lost_step = judged_other step es sent f r _ is;
    few = few_of lost (known_of cfg p) step rest p.sent p.tries h;
  }
  came_stands p step [] f es sent None is e s d h l now =
      let q = noted p step [] f in
      let r = came lost 1 (known_of cfg p) step [] p.sent p.tries h now in
      subst (λ (x : Phase). Stands lost cfg (done q x q.words.reference)) (sym s)
      (done_stands q q.words.reference refl e s refl d (subst (λ (all : List Step). Reached lost 1 all [] (p.sent + 1) 0) (sym (known_kept cfg p.sent step [] f p.words l)) r))
  came_stands p step (next ∷ others) f es sent None is e s d h l now =
      let q = noted p step (next ∷ others) f in
      let r = came lost 1 (known_of cfg p) step (next ∷ others) p.sent p.tries h now in
      subst (λ (o : Option Refusal). StandsBy lost cfg q o p.phase) (sym e)
      (subst (λ (x : Phase). StandsBy lost cfg q None x) (sym s)
      (record {
        drifts = d;
        reached = subst (λ (all : List Step). Reached lost 1 all (next ∷ others) (p.sent + 1) 0) (sym (known_kept cfg p.sent step (next ∷ others) f p.words l)) r;
        late = subst (λ (o : Option ℕ). IsLate o (next ∷ others)) (sym (learned_reference p.sent step f p.words)) (late_on p.words.reference step (next ∷ others) l);
      }))

  asked_stands : (p : Progress) (sent : FrameValue) (back : Option FrameValue) (step : Step) (rest : List Step) → p.refused ≡ None → p.phase ≡ Commissioning → p.todo ≡ step ∷ rest → p.drifts ≡ 0
      → Reached lost 1 (known_of cfg p) (step ∷ rest) p.sent p.tries → IsLate p.words.reference (step ∷ rest) → lost p.sent ≡ is_none back → Stands lost cfg (asked_of cfg p sent back (step ∷ rest))
  asked_stands p sent None step rest e s t d h l now =
      subst (λ (x : Phase). StandsBy lost cfg (missed p step) (lost_at step (p.tries + 1)) x) (sym s) (lost_more p step rest (p.tries + 1 == 3) refl t d h l now)
  asked_stands p sent (Some f) step rest e s t d h l now =
      came_stands p step rest f (expected cfg p.words step f) sent (judged step (expected cfg p.words step f) sent f) refl e s d h l now

  moved_stands : (p : Progress) (sent : FrameValue) (back : Option FrameValue) (o : Option Refusal) (s : Phase) (step : Step) (rest : List Step) → p.refused ≡ o → p.phase ≡ s → o ≡ None → s ≡ Commissioning → p.todo ≡ step ∷ rest
      → Asks lost cfg p → lost (p.sent + 1) ≡ is_none back → Stands lost cfg (moved cfg (counted p back) sent back o s)
  moved_stands p sent back (Some r) s step rest e g x y t h now = absurd cc
  moved_stands p sent back None Settling step rest e g x y t h now = absurd cc
  moved_stands p sent back None Arming step rest e g x y t h now = absurd cc
  moved_stands p sent back None Running step rest e g x y t h now = absurd cc
  moved_stands p sent back None Commissioning step rest e g x y t h now =
      let q = counted p back in
      let d : q.drifts ≡ 0 = rw g (omega (arith, h.drifts)) in
      subst (λ (todo : List Step). Stands lost cfg (asked_of cfg q sent back todo)) (sym t)
      (asked_stands q sent back step rest e g t d (subst (λ (todo : List Step). Reached lost 1 (known_of cfg p) todo (p.sent + 1) p.tries) t h.reached)
      (subst (λ (todo : List Step). IsLate p.words.reference todo) t h.late) now)

  pub after_stands : (p : Progress) (e : Exchange) (step : Step) (rest : List Step) → p.refused ≡ None → p.phase ≡ Commissioning → p.todo ≡ step ∷ rest → Asks lost cfg p → lost (p.sent + 1) ≡ is_none e.back
      → Stands lost cfg (after cfg p e)
  unfolding after
  after_stands p e step rest n s t h now = moved_stands p e.sent e.back p.refused p.phase step rest refl refl n s t h now
