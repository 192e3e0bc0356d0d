-- Settling: as long as no frame brought the time of the reference, all of them were lost.
use Rattle.std.specs.Prelude.{◌≡◌, ℕ, ◌<◌, ◌≤◌, Bool, true, List, Option, Some, None}
use Rattle.master_script.specs.Config.{ConfigValue, settle_frames}
use Rattle.master_script.specs.Progress.{Progress}
use Rattle.master_script.specs.Slaves.{SlaveWords}
use Rattle.master_script.specs.declared.step.Refusal.{Refusal}
use Rattle.run_counts.specs.IfLost.{IfLost}

-- so many drift frames, and all of them lost
abbrev pub AllLost : (ℕ → Bool) → ℕ → Type 0
AllLost lost n = (k : ℕ) → 0 < k → k ≤ n → lost k ≡ true

-- the slaves are those that were known when settling began
pub record Settles (lost : ℕ → Bool) (cfg : ConfigValue) (ss : List SlaveWords) (p : Progress) : Type 0 where
  pub slaves : p.words.slaves ≡ ss
  pub silent : p.words.time ≡ None → AllLost lost p.drifts

abbrev pub SettlesBy : (ℕ → Bool) → ConfigValue → List SlaveWords → Progress → Option Refusal → Type 0
SettlesBy lost cfg ss p (Some r) = IfLost r (λ step. AllLost lost (settle_frames cfg))
SettlesBy lost cfg ss p None = Settles lost cfg ss p

abbrev pub StandsSettling : (ℕ → Bool) → ConfigValue → List SlaveWords → Progress → Type 0
StandsSettling lost cfg ss p = SettlesBy lost cfg ss p p.refused
