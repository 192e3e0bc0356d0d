-- A step that is sent up to three times.
use Rattle.std.proofs.Common.{◌≡◌, ℕ, ◌+◌, ◌<◌, List, ◌∷◌, Option, Some, None, refl}
use Rattle.ecat_frame.specs.FrameGrammar.{FrameValue}
use Rattle.ecat_link.specs.Exchanges.{Exchange, StepOf, Follows}
use Rattle.ecat_link.specs.Serves.{Serves}
use Rattle.ecat_link.proofs.Exported.{serves_none, serves_weaker}
use Rattle.master_steps.specs.Asking.{AfterTries, Asks, call_of, one_sent, phase_of}
use Rattle.master_steps.specs.declared.exchange.Counters.{Counters}
use Rattle.master_script.specs.Config.{ConfigValue}
use Rattle.master_script.specs.Judged.{judged}
use Rattle.master_script.specs.Progress.{progress, drift_one}
use Rattle.master_script.specs.Script.{script}
use Rattle.master_script.specs.Steps.{expected, frame_of}
use Rattle.master_script.specs.Words.{Words}
use Rattle.master_script.specs.declared.step.Step.{Step}
use Rattle.master_script.specs.declared.step.Step.TheVariants.{Arm}
use Rattle.master_script.proofs.Exported.{AsksIn, Sent, asking, ask_lost, ask_came}

abbrev pub sent_of : Counters → Sent
sent_of n = record { sent = n.sent; lost = n.lost; drifts = n.drifts }

-- the step was sent so often, in vain
abbrev pub Tried : ConfigValue → Words → Step → List Step → ℕ → Counters → List Exchange → Type 0
Tried cfg w step rest k n es = progress cfg es ≡ asking (phase_of step) (sent_of n) w step rest k

asks : (step : Step) → AsksIn (call_of step) (phase_of step)
asks (Arm p) = tt
asks step = tt

module _ {S : Type 0} (step_of : StepOf S) (cfg : ConfigValue) (step : Step) (w : Words) (rest : List Step) where
  pub tried_none : (n : Counters) (s : Option S) → Serves step_of (script cfg (call_of step)) (Asks cfg (phase_of step) n w (step ∷ rest)) s s (Tried cfg w step rest 0 n)
  tried_none n s = serves_none step_of _ (Asks cfg (phase_of step) n w (step ∷ rest)) (Tried cfg w step rest 0 n) s (λ es h. h)

  pub tried_lost : (P : List Exchange → Type 0) (n m : Counters) (a t u : Option S) (wait_ns drifts k : ℕ) (sent : FrameValue) → k < 3 → wait_ns ≡ cfg.frame_ns → sent ≡ frame_of cfg w step
      → drifts ≡ drift_one (phase_of step) → m ≡ one_sent drifts None n
      → Serves step_of (script cfg (call_of step)) P a t (Tried cfg w step rest k n)
      → Follows step_of t u (record { wait_ns = wait_ns; sent = sent; back = None })
      → Serves step_of (script cfg (call_of step)) P a u (Tried cfg w step rest (k + 1) m)
  tried_lost P n m a t u wait_ns drifts k sent h v x d e p f =
      rw (e, d) (ask_lost step_of cfg (call_of step) (phase_of step) P (sent_of n) w step rest a t u wait_ns sent k (asks step) h v x p f)

  pub tried_came : (P : List Exchange → Type 0) (n m : Counters) (a t u : Option S) (wait_ns drifts k : ℕ) (sent reply : FrameValue) → k < 3 → wait_ns ≡ cfg.frame_ns → sent ≡ frame_of cfg w step
      → drifts ≡ drift_one (phase_of step) → m ≡ one_sent drifts (Some reply) n
      → Serves step_of (script cfg (call_of step)) P a t (Tried cfg w step rest k n)
      → Follows step_of t u (record { wait_ns = wait_ns; sent = sent; back = Some reply })
      → Serves step_of (script cfg (call_of step)) P a u (AfterTries cfg (phase_of step) m w step rest sent (Some reply))
  tried_came P n m a t u wait_ns drifts k sent reply h v x d e p f =
      rw (e, d) (serves_weaker step_of _ P P _ _ a u (λ es b. b) (λ es b. record { tries = k; place = b })
      (ask_came step_of cfg (call_of step) (phase_of step) P (sent_of n) w step rest a t u wait_ns sent reply k (judged step (expected cfg w step reply) sent reply) (asks step) h v x refl p f))

  pub tried_all : (P : List Exchange → Type 0) (n : Counters) (a t : Option S) (k : ℕ) (sent : FrameValue) → k ≡ 3
      → Serves step_of (script cfg (call_of step)) P a t (Tried cfg w step rest k n)
      → Serves step_of (script cfg (call_of step)) P a t (AfterTries cfg (phase_of step) n w step rest sent None)
  tried_all P n a t k sent e p = serves_weaker step_of _ P P _ _ a t (λ es b. b) (λ es b. record { tries = 3; place = rw e at b }) p
