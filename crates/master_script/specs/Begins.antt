-- Where a phase begins.
use Rattle.std.specs.Prelude.{◌≡◌, ℕ, ⊤, List, [], None}
use Rattle.master_script.specs.Config.{ConfigValue, settle_frames}
use Rattle.master_script.specs.Progress.{Phase, Commissioning, Settling, Arming, Running, Progress, first_steps, arm_steps}
use Rattle.master_script.specs.Slaves.{SlaveWords}
use Rattle.master_script.specs.declared.step.Step.{Step}

-- the steps with which a phase begins
abbrev pub steps_of : ConfigValue → List SlaveWords → Phase → List Step
steps_of cfg ss Commissioning = first_steps cfg
steps_of cfg ss Settling = []
steps_of cfg ss Arming = arm_steps ss
steps_of cfg ss Running = []

-- how many drift frames were sent by then; arming may lose any number of its own
abbrev pub BeginsBehind : ConfigValue → ℕ → Phase → Type 0
BeginsBehind cfg drifts Commissioning = drifts ≡ 0
BeginsBehind cfg drifts Settling = drifts ≡ 0
BeginsBehind cfg drifts Arming = drifts ≡ settle_frames cfg
BeginsBehind cfg drifts Running = ⊤

-- nothing was refused, and nothing of this phase was sent yet
pub record Begins (cfg : ConfigValue) (phase : Phase) (p : Progress) : Type 0 where
  pub phase_is : p.phase ≡ phase
  pub unrefused : p.refused ≡ None
  pub todo : p.todo ≡ steps_of cfg p.words.slaves phase
  pub drifts : BeginsBehind cfg p.drifts phase
  pub ran : p.ran ≡ 0
