-- Arming: which step its exchanges have come to, by the numbers of the drift frames that are lost.
use Rattle.std.specs.Prelude.{◌≡◌, ⊤, ℕ, ◌+◌, ◌*◌, ◌≤◌, Bool, List, ◌++◌, length, Option, Some, None, Ok, Err}
use Rattle.lost_step.specs.LostStep.{asked}
use Rattle.master_script.specs.Progress.{Phase, Commissioning, Settling, Arming, Running, Progress}
use Rattle.master_script.specs.declared.step.Refusal.{Refusal}
use Rattle.master_script.specs.declared.step.Step.{Step}
use Rattle.run_counts.specs.IfLost.{IfLost}
use Rattle.run_counts.specs.Reached.{Reached}

-- it was refused, with so many drift frames sent
pub record StopsArming (lost : ℕ → Bool) (begin : ℕ) (all : List Step) (p : Progress) (r : Refusal) : Type 0 where
  pub lost_step : IfLost r (λ step. (more : List Step) → asked lost begin (all ++ more) ≡ Err step)
  pub few : p.drifts + 1 ≤ begin + 3 * length all

-- all steps came
pub record Armed (lost : ℕ → Bool) (begin : ℕ) (all : List Step) (p : Progress) : Type 0 where
  pub came : asked lost begin all ≡ Ok (p.drifts + 1)

abbrev pub ArmsBy : (ℕ → Bool) → ℕ → List Step → Progress → Option Refusal → Phase → Type 0
ArmsBy lost begin all p (Some r) s = StopsArming lost begin all p r
ArmsBy lost begin all p None Commissioning = ⊤
ArmsBy lost begin all p None Settling = ⊤
ArmsBy lost begin all p None Arming = Reached lost begin all p.todo (p.drifts + 1) p.tries
ArmsBy lost begin all p None Running = Armed lost begin all p

abbrev pub StandsArming : (ℕ → Bool) → ℕ → List Step → Progress → Type 0
StandsArming lost begin all p = ArmsBy lost begin all p p.refused p.phase
