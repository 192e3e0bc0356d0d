-- What it means that a call wants a frame: the frame is that of a step of the call's phase.
use Rattle.std.proofs.Common.{◌≡◌, ◌≢◌, ℕ, ◌+◌, ◌<◌, ◌≤◌, Bool, true, false, cond, ltb, List, [], ◌∷◌, length, Option, Some, None, Ok, slice_get, refl, sym, ap, subst, ◌∙◌, arith}
use Rattle.ecat_frame.specs.FrameGrammar.{DatagramValue, FrameValue, IsFrame}
use Rattle.ecat_frame.specs.declared.command.Command.TheVariants.{Frmw}
use Rattle.ecat_link.specs.Exchanges.{Exchange}
use Rattle.ecat_link.specs.Serves.{Send, End}
use Rattle.master_script.specs.Config.{ConfigValue}
use Rattle.master_script.specs.Frames.{drift_datagram}
use Rattle.master_script.specs.Progress.{Phase, Commissioning, Settling, Arming, Running, Progress, progress}
use Rattle.master_script.specs.Script.{script, Call, Commission, Settle as CallSettle, Arm as CallArm, Run, sends, asks_next, drifts_next, next_in, next_by}
use Rattle.master_script.specs.Steps.{frame_of}
use Rattle.master_script.specs.Words.{Words, reference_of}
use Rattle.master_script.specs.declared.step.Refusal.{Refusal}
use Rattle.master_script.specs.declared.step.Step.{Step}
use Rattle.master_script.specs.declared.step.Step.TheVariants.{Count, Identify, Rate, Latch, Times, Set, Settle, Drift, Arm}
use Rattle.master_script.proofs.Grammar.{valid_frame}
use Rattle.master_script.proofs.Within.{StepWithin, StepsWithin, IsOf, AreOf, Within, progress_within}

abbrev pub phase_of : Call → Phase
phase_of Commission = Commissioning
phase_of CallSettle = Settling
phase_of CallArm = Arming
phase_of (Run frames) = Running

pub record Wants (cfg : ConfigValue) (p : Progress) (s : Phase) (wait_ns : ℕ) (frame : FrameValue) : Type 0 where
  pub step : Step
  pub wait : wait_ns ≡ cfg.frame_ns
  pub is : frame ≡ frame_of cfg p.words step
  pub within : StepWithin (length cfg.kinds) step
  pub kind : IsOf s step

module _ (cfg : ConfigValue) (p : Progress) (wait_ns : ℕ) (frame : FrameValue) where
  sent_step : (s : Phase) (step : Step) → StepWithin (length cfg.kinds) step → IsOf s step → sends cfg p step ≡ Send wait_ns frame → Wants cfg p s wait_ns frame
  sent_step s step within kind h = record { step = step; wait = cc; is = cc; within = within; kind = kind }

  asks_wants : (s : Phase) (todo : List Step) → StepsWithin (length cfg.kinds) todo → AreOf s todo → asks_next cfg p todo ≡ Send wait_ns frame → Wants cfg p s wait_ns frame
  asks_wants s [] within kind h = absurd cc
  asks_wants s (step ∷ rest) within kind h = sent_step s step within.0 kind.0 h

  runs_wants : (b : Bool) → cond b (drifts_next cfg p) (End (Ok tt)) ≡ Send wait_ns frame → Wants cfg p Running wait_ns frame
  runs_wants true h = sent_step Running (Drift (p.drifts + 1)) tt tt h
  runs_wants false h = absurd cc

  wants_in : (call : Call) (s : Phase) → StepsWithin (length cfg.kinds) p.todo → AreOf s p.todo → next_in cfg p call s ≡ Send wait_ns frame → Wants cfg p (phase_of call) wait_ns frame
  wants_in Commission Commissioning within kind h = asks_wants Commissioning p.todo within kind h
  wants_in CallSettle Settling within kind h = sent_step Settling (Drift (p.drifts + 1)) tt tt h
  wants_in CallArm Arming within kind h = asks_wants Arming p.todo within kind h
  wants_in (Run k) Running within kind h = runs_wants (ltb p.ran k) h
  wants_in call s within kind h = absurd cc

  wants_by : (call : Call) (o : Option Refusal) → Within (length cfg.kinds) p → next_by cfg p call o ≡ Send wait_ns frame → Wants cfg p (phase_of call) wait_ns frame
  wants_by call (Some r) w h = absurd cc
  wants_by call None w h = wants_in call p.phase w.todo w.steps h

pub wants : (cfg : ConfigValue) (call : Call) (es : List Exchange) (wait_ns : ℕ) (frame : FrameValue) → 0 < length cfg.kinds → script cfg call es ≡ Send wait_ns frame
    → Wants cfg (progress cfg es) (phase_of call) wait_ns frame
unfolding script
wants cfg call es wait_ns frame some h =
    wants_by cfg (progress cfg es) wait_ns frame call (progress cfg es).refused (progress_within cfg es some) h

-- of the grammar
few_step : (n : ℕ) (step : Step) → n ≤ 256 → StepWithin n step → StepWithin 256 step
few_step n Count h w = tt
few_step n (Identify p) h w = omega (arith, h, w)
few_step n Rate h w = tt
few_step n Latch h w = tt
few_step n (Times p) h w = omega (arith, h, w)
few_step n (Set p) h w = omega (arith, h, w)
few_step n Settle h w = tt
few_step n (Drift k) h w = tt
few_step n (Arm p) h w = omega (arith, h, w)

pub wanted_valid : (cfg : ConfigValue) (call : Call) (es : List Exchange) (wait_ns : ℕ) (frame : FrameValue) → 0 < length cfg.kinds → length cfg.kinds ≤ 256 → script cfg call es ≡ Send wait_ns frame → IsFrame frame
wanted_valid cfg call es wait_ns frame some few h =
    let w = wants cfg call es wait_ns frame some h in
    let v = progress_within cfg es some in
    let r = v.reference in
    subst (λ f. IsFrame f) (sym w.is) (valid_frame cfg (progress cfg es).words w.step (few_step (length cfg.kinds) w.step few w.within) (omega (arith, few, r)))

-- drift frames
drift_in : (cfg : ConfigValue) (w : Words) (call : Call) (step : Step) → call ≢ Commission → IsOf (phase_of call) step → slice_get (frame_of cfg w step).datagrams 0 ≡ Some (drift_datagram (reference_of w))
unfolding frame_of
drift_in cfg w Commission step c k = absurd (c refl)
drift_in cfg w CallSettle (Drift k) c h = refl
drift_in cfg w CallArm (Arm p) c h = refl
drift_in cfg w (Run frames) (Drift k) c h = refl
drift_in cfg w call step c h = absurd h

pub wanted_drift : (cfg : ConfigValue) (call : Call) (es : List Exchange) (wait_ns : ℕ) (frame : FrameValue) → 0 < length cfg.kinds → call ≢ Commission → script cfg call es ≡ Send wait_ns frame
    → slice_get frame.datagrams 0 ≡ Some (drift_datagram (reference_of (progress cfg es).words))
wanted_drift cfg call es wait_ns frame some c h =
    let w = wants cfg call es wait_ns frame some h in
    ap (λ (f : FrameValue). slice_get f.datagrams 0) w.is ∙ drift_in cfg (progress cfg es).words call w.step c w.kind

-- commission frames
pub record IsOther (frame : FrameValue) : Type 0 where
  pub first : DatagramValue
  pub is : slice_get frame.datagrams 0 ≡ Some first
  pub other : first.head.command ≢ Frmw

other_in : (cfg : ConfigValue) (w : Words) (step : Step) → IsOf Commissioning step → IsOther (frame_of cfg w step)
unfolding frame_of
other_in cfg w Count h = record { first = _; is = refl; other = λ e. absurd cc }
other_in cfg w (Identify p) h = record { first = _; is = refl; other = λ e. absurd cc }
other_in cfg w Rate h = record { first = _; is = refl; other = λ e. absurd cc }
other_in cfg w Latch h = record { first = _; is = refl; other = λ e. absurd cc }
other_in cfg w (Times p) h = record { first = _; is = refl; other = λ e. absurd cc }
other_in cfg w (Set p) h = record { first = _; is = refl; other = λ e. absurd cc }
other_in cfg w step h = absurd h

pub wanted_other : (cfg : ConfigValue) (es : List Exchange) (wait_ns : ℕ) (frame : FrameValue) → 0 < length cfg.kinds → script cfg Commission es ≡ Send wait_ns frame → IsOther frame
wanted_other cfg es wait_ns frame some h =
    let w = wants cfg Commission es wait_ns frame some h in
    subst (λ f. IsOther f) (sym w.is) (other_in cfg (progress cfg es).words w.step w.kind)
