-- How far exchanges have come, try by try, by the numbers of the frames that are lost.
use Rattle.std.specs.Prelude.{◌≡◌, ℕ, ◌+◌, ◌*◌, ◌<◌, ◌≤◌, Bool, true, List, ◌++◌, length}
use Rattle.lost_step.specs.LostStep.{asked}
use Rattle.master_script.specs.declared.step.Step.{Step}

-- The exchanges of these steps began at a number, and the steps that are left are still to be asked. The next frame has this number, and
-- the first of them was lost so often; and what the exchanges come to is what those that are left come to.
pub record Reached (lost : ℕ → Bool) (begin : ℕ) (all todo : List Step) (number tries : ℕ) : Type 0 where
  pub first : ℕ
  pub is : first + tries ≡ number
  pub few : tries ≤ 2
  pub gone : (k : ℕ) → k < tries → lost (first + k) ≡ true
  pub same : (more : List Step) → asked lost begin (all ++ more) ≡ asked lost first (todo ++ more)
  pub most : first + 3 * length todo ≤ begin + 3 * length all
  pub least : begin + length all ≤ first + length todo
