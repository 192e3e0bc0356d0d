-- The numbers that exchanges use, each of them up to three.
use Rattle.std.specs.Prelude.{◌≡◌, ℕ, ◌+◌, Bool, true, List, ◌∷◌, ◌++◌, count_by, Ok}
use Rattle.std.specs.List.{range_with_len}
use Rattle.lost_step.specs.LostStep.{asked}
use Rattle.master_script.specs.declared.step.Step.{Step}

-- how many of so many numbers, from this one on, are lost
abbrev pub lost_numbers : (ℕ → Bool) → ℕ → ℕ → ℕ
lost_numbers lost first many = count_by lost (range_with_len first many)

-- The exchanges of the steps before this one come, and its first try has the number after them; that number and the two after it are
-- lost.
pub record IsLostAt (lost : ℕ → Bool) (a : ℕ) (steps : List Step) (step : Step) : Type 0 where
  pub before : List Step
  pub rest : List Step
  pub all : steps ≡ before ++ (step ∷ rest)
  pub first : ℕ
  pub came : asked lost a before ≡ Ok first
  pub once : lost first ≡ true
  pub twice : lost (first + 1) ≡ true
  pub thrice : lost (first + 2) ≡ true
