-- When a call answers that the slaves were refused, or that an earlier call was.
use Rattle.std.proofs.Common.{◌≡◌, ℕ, List, Option, Some, None, refl}
use Rattle.dc_master.specs.Inside.{HasStage}
use Rattle.dc_master.specs.Made.{IsOfSlaves}
use Rattle.master_steps.specs.declared.exchange.Counters.{Counters}
use Rattle.master_script.specs.Causes.{AreRefused, IsCause}
use Rattle.master_script.specs.Config.{ConfigValue}
use Rattle.master_script.specs.Script.{Call}
use Rattle.master_script.specs.Words.{Words}
use Rattle.master_script.specs.declared.step.Refusal.{Refusal}
use Rattle.master_script.specs.declared.step.Refusal.TheVariants.{Lost, Counter, Reply, Topology, NoReference, Unmeasurable}
use Rattle.master_script.specs.declared.step.Stage.{Stage}
use Rattle.master_script.specs.declared.step.Stage.TheVariants.{Fresh, Commissioned, Settled, Armed, Ended, Spent}

-- a refusal of the judgement has its cause in the words of the slaves
pub slaves_told : (cfg : ConfigValue) (call : Call) (drifts : ℕ) (w : Words) (r : Refusal) → IsOfSlaves r → IsCause cfg call drifts w r → AreRefused cfg w.slaves r
slaves_told cfg call drifts w (Lost q) told h = absurd told
slaves_told cfg call drifts w (Reply q a) told h = absurd told
slaves_told cfg call drifts w (Counter q e k) told h = absurd told
slaves_told cfg call drifts w (Topology e) told h = h.1
slaves_told cfg call drifts w NoReference told h = h.1
slaves_told cfg call drifts w (Unmeasurable k) told h = h.1

module _ (cfg : ConfigValue) (n : Counters) (w : Words) (ds : List (Option ℕ)) where
  -- with a refusal a master is spent
  pub spent_with : (s : Stage) (r : Refusal) → HasStage cfg n w ds s (Some r) → s ≡ Spent
  spent_with Spent r h = refl
  spent_with Fresh r h = absurd h
  spent_with Commissioned r h = absurd h
  spent_with Settled r h = absurd h
  spent_with Armed r h = absurd h
  spent_with Ended r h = absurd h

  pub not_spent : (s : Stage) (o : Option Refusal) → o ≡ None → HasStage cfg n w ds s o → s ≡ Spent → ⊥
  not_spent s o none h e = let z : HasStage cfg n w ds Spent None = rw (e, none) at h in z

  -- what holds in a stage without a refusal
  pub held : (s t : Stage) (o : Option Refusal) → s ≡ t → o ≡ None → HasStage cfg n w ds s o → HasStage cfg n w ds t None
  held s t o e none h = rw (e, none) at h

  pub holds : (t : Stage) (o : Option Refusal) → o ≡ None → HasStage cfg n w ds t None → HasStage cfg n w ds t o
  holds t o none h = rw none h
