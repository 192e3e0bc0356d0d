-- A round, one position after another.
use Rattle.std.proofs.Common.{◌≡◌, ℕ, suc, ◌+◌, ◌-◌, ◌<◌, ◌≤◌, Bool, true, false, List, [], ◌∷◌, map, refl, sym, ap, ◌∙◌, arith}
use Rattle.std.specs.Prelude.{filter, Result, Ok, Err}
use Rattle.std.specs.List.{range_with_len}
use Rattle.dc_delay.specs.ShapeRows.{positions}
use Rattle.master_script.specs.declared.step.Step.{Step}
use Rattle.lost_step.specs.LostStep.{asked}
use Rattle.lost_step.proofs.Asking.{asked_first, lost_first}

-- the steps from a position on
abbrev pub steps_from : (ℕ → Bool) → (ℕ → Step) → ℕ → ℕ → List Step
steps_from takes step n p = map step (filter takes (range_with_len p (n - p)))

one_more : (n p : ℕ) → p < n → range_with_len p (n - p) ≡ p ∷ range_with_len (p + 1) (n - (p + 1))
one_more n p low = let e : n - p ≡ suc (n - (p + 1)) = omega arith in rw e refl

pub all_steps : (takes : ℕ → Bool) (step : ℕ → Step) (n : ℕ) → map step (filter takes (positions n)) ≡ steps_from takes step n 0
all_steps takes step n = let e : n - 0 ≡ n = omega arith in rw e refl

pub taken : (takes : ℕ → Bool) (step : ℕ → Step) (n p : ℕ) → p < n → takes p ≡ true → steps_from takes step n p ≡ step p ∷ steps_from takes step n (p + 1)
taken takes step n p low is = rw (one_more n p low, is) refl

pub skipped : (takes : ℕ → Bool) (step : ℕ → Step) (n p : ℕ) → p < n → takes p ≡ false → steps_from takes step n p ≡ steps_from takes step n (p + 1)
skipped takes step n p low is = rw (one_more n p low, is) refl

pub no_more : (takes : ℕ → Bool) (step : ℕ → Step) (n p : ℕ) → n ≤ p → steps_from takes step n p ≡ []
no_more takes step n p high = let e : n - p ≡ 0 = omega arith in rw e refl

-- a round in which every slave takes part
pub all_take : (ps : List ℕ) → filter (λ p. true) ps ≡ ps
all_take [] = refl
all_take (p ∷ ps) = ap (λ (x : List ℕ). p ∷ x) (all_take ps)

none_asked : (lost : ℕ → Bool) (a : ℕ) → asked {A = Step} lost a [] ≡ Ok a
unfolding asked
none_asked lost a = refl

-- what a round comes to, one position after another
module _ (lost : ℕ → Bool) (takes : ℕ → Bool) (step : ℕ → Step) (n p number : ℕ) (all : Result ℕ Step) (so_far : all ≡ asked lost number (steps_from takes step n p)) where
  pub round_taken : (b : ℕ) → p < n → takes p ≡ true → Ok b ≡ asked lost number (step p ∷ []) → all ≡ asked lost b (steps_from takes step n (p + 1))
  round_taken b low is came = so_far ∙ ap (asked lost number) (taken takes step n p low is) ∙ asked_first lost number b (step p) (steps_from takes step n (p + 1)) came

  pub round_lost : (other : Step) → p < n → takes p ≡ true → Err other ≡ asked lost number (step p ∷ []) → Err other ≡ all
  round_lost other low is gone = sym (so_far ∙ ap (asked lost number) (taken takes step n p low is) ∙ lost_first lost number (step p) other (steps_from takes step n (p + 1)) gone)

  pub round_skipped : p < n → takes p ≡ false → all ≡ asked lost number (steps_from takes step n (p + 1))
  round_skipped low is = so_far ∙ ap (asked lost number) (skipped takes step n p low is)

  pub round_over : n ≤ p → Ok number ≡ all
  round_over high = sym (so_far ∙ ap (asked lost number) (no_more takes step n p high) ∙ none_asked lost number)
