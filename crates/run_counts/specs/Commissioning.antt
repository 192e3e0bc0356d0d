-- Commissioning: which step its exchanges have come to, by the numbers of the commission frames that are lost.
use Rattle.std.specs.Prelude.{◌≡◌, ⊤, ℕ, ◌+◌, ◌*◌, ◌≤◌, Bool, List, ◌++◌, length, Option, Some, None, Ok, Err}
use Rattle.std.specs.List.{AllByRecursion}
use Rattle.lost_step.specs.LostStep.{asked}
use Rattle.master_script.specs.Config.{ConfigValue}
use Rattle.master_script.specs.Progress.{Phase, Commissioning, Settling, Arming, Running, Progress, first_steps, later_steps}
use Rattle.master_script.specs.Slaves.{SlaveWords}
use Rattle.master_script.specs.declared.step.Refusal.{Refusal}
use Rattle.master_script.specs.declared.step.Step.{Step}
use Rattle.master_script.specs.declared.step.Step.TheVariants.{Identify}
use Rattle.run_counts.specs.IfLost.{IfLost}
use Rattle.run_counts.specs.Reached.{Reached}

-- the steps of commissioning that are known: those behind the judgement follow from the slaves
abbrev pub steps_known : ConfigValue → List SlaveWords → Option ℕ → List Step
steps_known cfg ss None = first_steps cfg
steps_known cfg ss (Some r) = first_steps cfg ++ later_steps ss

abbrev pub known_of : ConfigValue → Progress → List Step
known_of cfg p = steps_known cfg p.words.slaves p.words.reference

-- behind the judgement no slave is identified
abbrev pub IsOther : Step → Type 0
IsOther (Identify p) = ⊥
IsOther step = ⊤

abbrev pub IsLate : Option ℕ → List Step → Type 0
IsLate None todo = ⊤
IsLate (Some r) todo = AllByRecursion IsOther todo

-- a step is asked
pub record Asks (lost : ℕ → Bool) (cfg : ConfigValue) (p : Progress) : Type 0 where
  pub drifts : p.drifts ≡ 0
  pub reached : Reached lost 1 (known_of cfg p) p.todo (p.sent + 1) p.tries
  pub late : IsLate p.words.reference p.todo

-- all steps came
pub record Done (lost : ℕ → Bool) (cfg : ConfigValue) (p : Progress) : Type 0 where
  pub drifts : p.drifts ≡ 0
  pub all : asked lost 1 (first_steps cfg ++ later_steps p.words.slaves) ≡ Ok (p.sent + 1)
  pub judged : (r : ℕ) × (p.words.reference ≡ Some r)

-- it was refused
pub record Stops (lost : ℕ → Bool) (cfg : ConfigValue) (p : Progress) (r : Refusal) : Type 0 where
  pub lost_step : IfLost r (λ step. (more : List Step) → asked lost 1 (known_of cfg p ++ more) ≡ Err step)
  pub few : p.sent ≤ 3 * length (known_of cfg p)

abbrev pub StandsBy : (ℕ → Bool) → ConfigValue → Progress → Option Refusal → Phase → Type 0
StandsBy lost cfg p (Some r) s = Stops lost cfg p r
StandsBy lost cfg p None Commissioning = Asks lost cfg p
StandsBy lost cfg p None Settling = Done lost cfg p
StandsBy lost cfg p None Arming = ⊤
StandsBy lost cfg p None Running = ⊤

abbrev pub Stands : (ℕ → Bool) → ConfigValue → Progress → Type 0
Stands lost cfg p = StandsBy lost cfg p p.refused p.phase
