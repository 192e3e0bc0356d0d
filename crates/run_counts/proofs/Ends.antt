-- How a call of the script ends, and what it asks.
use Rattle.std.proofs.Common.{◌≡◌, ℕ, Bool, true, false, cond, ltb, List, [], ◌∷◌, Option, Some, None, Ok, Err, refl, ap}
use Rattle.ecat_frame.specs.FrameGrammar.{FrameValue}
use Rattle.ecat_link.specs.Exchanges.{Exchange}
use Rattle.ecat_link.specs.Serves.{Next, Send, End}
use Rattle.master_script.specs.Config.{ConfigValue}
use Rattle.master_script.specs.Progress.{Phase, Commissioning, Settling, Arming, Running, Progress, progress}
use Rattle.master_script.specs.Script.{Answer, script, Call, Commission, Settle, Arm, Run, asks_next, drifts_next, next_in, next_by}
use Rattle.master_script.specs.declared.step.MasterError.{MasterError}
use Rattle.master_script.specs.declared.step.MasterError.TheVariants.{Refused, Spent}
use Rattle.master_script.specs.declared.step.Refusal.{Refusal}
use Rattle.master_script.specs.declared.step.Step.{Step}

abbrev pub ended : Answer → Next Answer
ended answer = End answer

-- the commission and the arm call ask steps
abbrev pub Asking : Call → Type 0
Asking Commission = Unit {0}
Asking Settle = ⊥
Asking Arm = Unit {0}
Asking (Run k) = ⊥

module _ (cfg : ConfigValue) (p : Progress) where
  -- no call ends with an error unless something was refused
  asks_no_error : (todo : List Step) (e : MasterError) → asks_next cfg p todo ≡ ended (Err e) → ⊥
  asks_no_error [] e h = absurd (let x = h in cc)
  asks_no_error (step ∷ rest) e h = absurd (let x = h in cc)

  runs_no_error : (b : Bool) (e : MasterError) → cond b (drifts_next cfg p) (ended (Ok tt)) ≡ ended (Err e) → ⊥
  runs_no_error true e h = absurd (let x = h in cc)
  runs_no_error false e h = absurd (let x = h in cc)

  no_error : (call : Call) (s : Phase) (e : MasterError) → next_in cfg p call s ≡ ended (Err e) → ⊥
  no_error Commission Commissioning e h = asks_no_error p.todo e h
  no_error Settle Settling e h = absurd (let x = h in cc)
  no_error Arm Arming e h = asks_no_error p.todo e h
  no_error (Run k) Running e h = runs_no_error (ltb p.ran k) e h
  no_error call s e h = absurd (let x = h in cc)

  error_by : (call : Call) (o : Option Refusal) (r : Refusal) → next_by cfg p call o ≡ ended (Err (Refused r)) → o ≡ Some r
  error_by call (Some x) r h = let same : x ≡ r = cc in ap (λ (y : Refusal). Some y) same
  error_by call None r h = absurd (no_error call p.phase (Refused r) h)

  spent_by : (call : Call) (o : Option Refusal) (r : Refusal) → next_by cfg p call o ≡ ended (Err (Spent r)) → ⊥
  spent_by call (Some x) r h = absurd (let y = h in cc)
  spent_by call None r h = no_error call p.phase (Spent r) h

  -- a call that asks has a step to ask
  asks_some : (wait_ns : ℕ) (frame : FrameValue) (todo : List Step) → p.todo ≡ todo → asks_next cfg p todo ≡ Send wait_ns frame → (step : Step) × (rest : List Step) × (p.todo ≡ step ∷ rest)
  asks_some wait_ns frame [] t h = absurd cc
  asks_some wait_ns frame (step ∷ rest) t h = (step, rest, t)

  asks_in : (call : Call) (s : Phase) (wait_ns : ℕ) (frame : FrameValue) → Asking call → next_in cfg p call s ≡ Send wait_ns frame → (step : Step) × (rest : List Step) × (p.todo ≡ step ∷ rest)
  asks_in Commission Commissioning wait_ns frame a h = asks_some wait_ns frame p.todo refl h
  asks_in Commission Settling wait_ns frame a h = absurd cc
  asks_in Commission Arming wait_ns frame a h = absurd cc
  asks_in Commission Running wait_ns frame a h = absurd cc
  asks_in Settle s wait_ns frame a h = absurd a
  asks_in Arm Commissioning wait_ns frame a h = absurd cc
  asks_in Arm Settling wait_ns frame a h = absurd cc
  asks_in Arm Arming wait_ns frame a h = asks_some wait_ns frame p.todo refl h
  asks_in Arm Running wait_ns frame a h = absurd cc
  asks_in (Run k) s wait_ns frame a h = absurd a

  asks_by : (call : Call) (o : Option Refusal) (wait_ns : ℕ) (frame : FrameValue) → Asking call → next_by cfg p call o ≡ Send wait_ns frame → (step : Step) × (rest : List Step) × (p.todo ≡ step ∷ rest)
  asks_by call (Some r) wait_ns frame a h = absurd cc
  asks_by call None wait_ns frame a h = asks_in call p.phase wait_ns frame a h

pub refused_at_end : (cfg : ConfigValue) (call : Call) (es : List Exchange) (r : Refusal) → script cfg call es ≡ ended (Err (Refused r)) → (progress cfg es).refused ≡ Some r
unfolding script
refused_at_end cfg call es r h = error_by cfg (progress cfg es) call (progress cfg es).refused r h

pub never_spent : (cfg : ConfigValue) (call : Call) (es : List Exchange) (r : Refusal) → script cfg call es ≡ ended (Err (Spent r)) → ⊥
unfolding script
never_spent cfg call es r h = spent_by cfg (progress cfg es) call (progress cfg es).refused r h

pub step_asked : (cfg : ConfigValue) (call : Call) (es : List Exchange) (wait_ns : ℕ) (frame : FrameValue) → Asking call → script cfg call es ≡ Send wait_ns frame
    → (step : Step) × (rest : List Step) × ((progress cfg es).todo ≡ step ∷ rest)
unfolding script
step_asked cfg call es wait_ns frame a h = asks_by cfg (progress cfg es) call (progress cfg es).refused wait_ns frame a h
