-- What is said of a refusal.
use Rattle.std.specs.Prelude.{⊤}
use Rattle.master_script.specs.declared.step.Refusal.{Refusal}
use Rattle.master_script.specs.declared.step.Refusal.TheVariants.{Lost, Counter, Reply, Topology, NoReference, Unmeasurable}
use Rattle.master_script.specs.declared.step.Step.{Step}

-- what holds where a step was lost; of other refusals nothing is said
abbrev pub IfLost : Refusal → (Step → Type 0) → Type 0
IfLost (Lost step) P = P step
IfLost (Counter step e k) P = ⊤
IfLost (Reply step at) P = ⊤
IfLost (Topology e) P = ⊤
IfLost NoReference P = ⊤
IfLost (Unmeasurable k) P = ⊤
