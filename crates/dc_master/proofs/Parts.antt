-- Parts of a call, step by step.
use Rattle.std.proofs.Common.{◌≡◌, ℕ, suc, ◌+◌, ◌-◌, ◌<◌, ◌&&◌, not, is_some, Bool, true, false, if◌then◌else◌, List, [], ◌∷◌, ◌++◌, map, Option, None, Ok, Err, refl, ap, ◌∙◌, arith}
use Rattle.std.specs.List.{list_any, range_with_len}
use Rattle.ecat_link.specs.Exchanges.{Exchange, StepOf}
use Rattle.ecat_link.specs.Serves.{Serves}
use Rattle.ecat_link.proofs.Exported.{serves_then, serves_weaker}
use Rattle.dc_master.specs.Places.{HasRefused}
use Rattle.master_steps.specs.Asking.{AfterStep, Asks, IsRefused, call_of, phase_of}
use Rattle.master_steps.specs.declared.exchange.Counters.{Counters}
use Rattle.master_frames.proofs.Exported.{left, left_yes, left_no}
use Rattle.master_script.specs.Config.{ConfigValue}
use Rattle.master_script.specs.Kept.{has_delays, is_times}
use Rattle.master_script.specs.Progress.{Phase, Progress}
use Rattle.master_script.specs.Script.{script}
use Rattle.master_script.specs.Words.{Words, delays_of}
use Rattle.master_script.specs.declared.step.Refusal.{Refusal}
use Rattle.master_script.specs.declared.step.Step.{Step}

-- the delays that are kept with these steps ahead
abbrev pub shown : ConfigValue → Words → List Step → List (Option ℕ)
shown cfg w todo = if is_some w.reference && not (list_any is_times todo) then delays_of cfg w else []

pub refused_part : (cfg : ConfigValue) (s : Phase) (n : Counters) (w : Words) (todo : List Step) (delays : List (Option ℕ)) (r : Refusal) (es : List Exchange)
    → shown cfg w todo ≡ delays → IsRefused cfg s n w todo r es → HasRefused cfg n w delays r es
refused_part cfg s n w todo delays r es d h = record {
  refused = ap (λ (p : Progress). p.refused) h.place;
  sent = ap (λ (p : Progress). p.sent) h.place;
  lost = ap (λ (p : Progress). p.lost) h.place;
  drifts = ap (λ (p : Progress). p.drifts) h.place;
  words = ap (λ (p : Progress). p.words) h.place;
  delays = ap (λ (p : Progress). if has_delays p then delays_of cfg w else []) h.place ∙ d;
}

module _ {S : Type 0} (step_of : StepOf S) (cfg : ConfigValue) (step : Step) (P : List Exchange → Type 0) (n m : Counters) (w v : Words) (todo rest : List Step) (a t u : Option S) where
  -- one step more is taken
  pub then_ok : todo ≡ step ∷ rest
      → Serves step_of (script cfg (call_of step)) P a t (Asks cfg (phase_of step) n w todo)
      → Serves step_of (script cfg (call_of step)) (Asks cfg (phase_of step) n w (step ∷ rest)) t u (AfterStep cfg (phase_of step) m v step rest (Ok tt))
      → Serves step_of (script cfg (call_of step)) P a u (Asks cfg (phase_of step) m v rest)
  then_ok e p q = serves_then step_of _ P (Asks cfg (phase_of step) n w (step ∷ rest)) (Asks cfg (phase_of step) m v rest) a t u (rw e at p) q

  -- one step more is refused
  pub then_err : (delays : List (Option ℕ)) (r : Refusal) → todo ≡ step ∷ rest → shown cfg v (step ∷ rest) ≡ delays
      → Serves step_of (script cfg (call_of step)) P a t (Asks cfg (phase_of step) n w todo)
      → Serves step_of (script cfg (call_of step)) (Asks cfg (phase_of step) n w (step ∷ rest)) t u (AfterStep cfg (phase_of step) m v step rest (Err r))
      → Serves step_of (script cfg (call_of step)) P a u (HasRefused cfg m v delays r)
  then_err delays r e d p q =
      serves_then step_of _ P (Asks cfg (phase_of step) n w (step ∷ rest)) (HasRefused cfg m v delays r) a t u (rw e at p)
      (serves_weaker step_of _ _ (Asks cfg (phase_of step) n w (step ∷ rest)) _ _ t u (λ es b. b) (λ es b. refused_part cfg (phase_of step) m v (step ∷ rest) delays r es d b) q)

-- other words for the same steps
pub at_todo : (cfg : ConfigValue) (s : Phase) (n : Counters) (w : Words) (todo todo' : List Step) (es : List Exchange) → todo ≡ todo' → Asks cfg s n w todo es → Asks cfg s n w todo' es
at_todo cfg s n w todo todo' es e b = rw e at b

-- no delays are kept before there is a reference
pub shown_none : (cfg : ConfigValue) (w : Words) (todo : List Step) → w.reference ≡ None → shown cfg w todo ≡ []
shown_none cfg w todo e = rw e refl

-- steps for the positions that are left
module _ (F : ℕ → Step) (flags : ℕ → Bool) (n k : ℕ) (tail : List Step) where
  pub steps_yes : k < n → flags k ≡ true → map F (left flags n k) ++ tail ≡ F k ∷ (map F (left flags n (k + 1)) ++ tail)
  steps_yes h is = ap (λ (ps : List ℕ). map F ps ++ tail) (left_yes flags n k h is)

  pub steps_no : k < n → flags k ≡ false → map F (left flags n k) ++ tail ≡ map F (left flags n (k + 1)) ++ tail
  steps_no h is = ap (λ (ps : List ℕ). map F ps ++ tail) (left_no flags n k h is)

pub range_more : (F : ℕ → Step) (n k : ℕ) → k < n → map F (range_with_len k (n - k)) ≡ F k ∷ map F (range_with_len (k + 1) (n - (k + 1)))
range_more F n k h = let e : n - k ≡ suc (n - (k + 1)) = omega arith in rw e refl

pub range_end : (F : ℕ → Step) (n k : ℕ) → n ≡ k → map F (range_with_len k (n - k)) ≡ []
range_end F n k h = let e : n - k ≡ 0 = omega (arith, h) in rw e refl
