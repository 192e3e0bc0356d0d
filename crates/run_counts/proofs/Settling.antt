-- Settling: as long as no frame brought the time of the reference, all of them were lost.
use Rattle.std.proofs.Common.{◌≡◌, ℕ, ◌+◌, ◌≤◌, Bool, true, false, cond, eqb, ◌==◌, List, Option, Some, None, is_none, refl, sym, subst, ◌∙◌, arith}
use Rattle.std.proofs.lemmas.Bool.Decides.{nat_tests}
use Rattle.ecat_frame.specs.FrameGrammar.{FrameValue}
use Rattle.ecat_link.specs.Exchanges.{Exchange}
use Rattle.master_script.specs.Config.{ConfigValue, settle_frames}
use Rattle.master_script.specs.Judged.{judged}
use Rattle.master_script.specs.Progress.{Phase, Commissioning, Settling, Arming, Running, Progress, after, counted, moved, settling, settled_by, timed, brought}
use Rattle.master_script.specs.Slaves.{SlaveWords}
use Rattle.master_script.specs.Steps.{expected}
use Rattle.master_script.specs.declared.step.Refusal.{Refusal}
use Rattle.master_script.specs.declared.step.Step.{Step}
use Rattle.master_script.specs.declared.step.Step.TheVariants.{Drift}
use Rattle.run_counts.specs.Settling.{AllLost, Settles, SettlesBy, StandsSettling}
use Rattle.run_counts.proofs.Replies.{judged_other}

from_eqb : (m k : ℕ) → eqb m k ≡ true → m ≡ k
from_eqb m k h = grind (arith, nat_tests)

module _ (lost : ℕ → Bool) (cfg : ConfigValue) (ss : List SlaveWords) where
  last_stands : (p : Progress) (time : Option ℕ) → p.words.time ≡ time → p.refused ≡ None → p.drifts ≡ settle_frames cfg → Settles lost cfg ss p → StandsSettling lost cfg ss (settled_by p time)
  last_stands p None t e d h = subst (λ (n : ℕ). AllLost lost n) d (h.silent t)
  last_stands p (Some x) t e d h = subst (λ (o : Option Refusal). SettlesBy lost cfg ss (settled_by p (Some x)) o) (sym e) (record { slaves = h.slaves; silent = h.silent })

  settled_stands : (p : Progress) (b : Bool) → eqb p.drifts (settle_frames cfg) ≡ b → p.refused ≡ None → Settles lost cfg ss p → StandsSettling lost cfg ss (cond b (settled_by p p.words.time) p)
  settled_stands p true d e h = last_stands p p.words.time refl e (from_eqb p.drifts (settle_frames cfg) d) h
  settled_stands p false d e h = subst (λ (o : Option Refusal). SettlesBy lost cfg ss p o) (sym e) h

  timed_stands : (p : Progress) (step : Step) (es : List ℕ) (sent f : FrameValue) (o : Option Refusal) → judged step es sent f ≡ o → p.refused ≡ None → p.words.slaves ≡ ss → StandsSettling lost cfg ss (timed cfg p f o)
  timed_stands p step es sent f (Some r) is e s = judged_other step es sent f r _ is
  timed_stands p step es sent f None is e s =
      settled_stands (brought cfg p f) (p.drifts == settle_frames cfg) refl e (record { slaves = s; silent = λ t. absurd (let x = t in cc) })

  settling_stands : (p : Progress) (sent : FrameValue) (back : Option FrameValue) → p.refused ≡ None → p.words.slaves ≡ ss → (is_none back ≡ true → p.words.time ≡ None → AllLost lost p.drifts) → StandsSettling lost cfg ss (settling cfg p sent back)
  settling_stands p sent None e s h = settled_stands p (p.drifts == settle_frames cfg) refl e (record { slaves = s; silent = h refl })
  settling_stands p sent (Some f) e s h = timed_stands p (Drift p.drifts) (expected cfg p.words (Drift p.drifts) f) sent f _ refl e s

  one_more : (n : ℕ) → AllLost lost n → lost (n + 1) ≡ true → AllLost lost (n + 1)
  one_more n h now k some few = by_place (k == n + 1) refl
    where
      by_place : (b : Bool) → eqb k (n + 1) ≡ b → lost k ≡ true
      by_place true is = let e : k ≡ n + 1 = from_eqb k (n + 1) is in subst (λ (x : ℕ). lost x ≡ true) (sym e) now
      by_place false is = h k some (let other : k ≤ n = grind (arith, nat_tests, is, few) in other)

  moved_settles : (p : Progress) (sent : FrameValue) (back : Option FrameValue) (o : Option Refusal) (s : Phase) → p.refused ≡ o → p.phase ≡ s → o ≡ None → s ≡ Settling → Settles lost cfg ss p → lost (p.drifts + 1) ≡ is_none back
      → StandsSettling lost cfg ss (moved cfg (counted p back) sent back o s)
  moved_settles p sent back (Some r) s e g x y h now = absurd cc
  moved_settles p sent back None Commissioning e g x y h now = absurd cc
  moved_settles p sent back None Arming e g x y h now = absurd cc
  moved_settles p sent back None Running e g x y h now = absurd cc
  moved_settles p sent back None Settling e g x y h now =
      let d : (counted p back).drifts ≡ p.drifts + 1 = rw g refl in
      settling_stands (counted p back) sent back e h.slaves
      (λ none t. subst (λ (n : ℕ). AllLost lost n) (sym d) (one_more p.drifts (h.silent t) (now ∙ none)))

  pub after_settles : (p : Progress) (e : Exchange) → p.refused ≡ None → p.phase ≡ Settling → Settles lost cfg ss p → lost (p.drifts + 1) ≡ is_none e.back → StandsSettling lost cfg ss (after cfg p e)
  unfolding after
  after_settles p e n s h now = moved_settles p e.sent e.back p.refused p.phase refl refl n s h now
