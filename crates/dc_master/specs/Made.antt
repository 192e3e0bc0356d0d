-- The exchanges that a master has made, whoever holds it and whatever link they went over.
use Rattle.std.specs.Prelude.{◌≡◌, ℕ, ◌++◌, ⊤, List, Option, Some, None, Ok, Err}
use Rattle.ecat_link.specs.Exchanges.{Exchange, StepOf, Runs}
use Rattle.ecat_link.specs.Serves.{Sends}
use Rattle.master_script.specs.Kept.{Kept, StandsFor, Ends}
use Rattle.master_script.specs.Progress.{progress}
use Rattle.master_script.specs.Script.{Call, Answer, script}
use Rattle.master_script.specs.Scripted.{AreScripted}
use Rattle.master_script.specs.declared.step.MasterError.TheVariants.{Spent as SpentBefore}
use Rattle.master_script.specs.declared.step.Refusal.{Refusal}
use Rattle.master_script.specs.declared.step.Refusal.TheVariants.{Topology, NoReference, Unmeasurable}
use Rattle.master_script.specs.declared.step.Stage.{Stage}
use Rattle.master_script.specs.declared.step.Stage.TheVariants.{Ended, Spent}

-- no number of frames was given to `run` until it has ended, and then as many as it has sent; behind a refusal there may be one or none
abbrev pub IsGiven : Stage → ℕ → Option ℕ → Type 0
IsGiven Ended ran frames = frames ≡ Some ran
IsGiven Spent ran frames = ⊤
IsGiven stage ran frames = frames ≡ None

-- Calls of the script made these exchanges, `run` among them with at most 100,000 frames, and a master that made them keeps what
-- this one keeps.
pub record HasMade (m : Kept) (es : List Exchange) : Type 0 where
  pub frames : Option ℕ
  pub given : IsGiven m.stage (progress m.config es).ran frames
  pub scripted : AreScripted m.config 100000 es
  pub stands : StandsFor frames m es

-- There are such exchanges.
pub record Stands (m : Kept) : Type 0 where
  pub exchanges : List Exchange
  pub made : HasMade m exchanges

-- A call made exchanges, by the step where the link tells its state. Behind some that earlier calls had made each is what
-- the script wanted next, and there the script ends with this answer, and this is kept.
pub record Makes {S : Type 0} (step : StepOf S) (call : Call) (m later : Kept) (s t : Option S) (answer : Answer) : Type 0 where
  pub before : List Exchange
  pub made : HasMade m before
  pub exchanges : List Exchange
  pub runs : Runs step s exchanges t
  pub sends : Sends (script m.config call) before exchanges
  pub ends : Ends m.config call later answer (before ++ exchanges)

-- the answer says that an earlier call was refused
abbrev pub IsSpent : Answer → Type 0
IsSpent (Ok _) = ⊥
IsSpent (Err (SpentBefore r)) = ⊤
IsSpent (Err e) = ⊥

-- the refusal is one of the judgement after the last Identify
abbrev pub IsOfSlaves : Refusal → Type 0
IsOfSlaves (Topology e) = ⊤
IsOfSlaves NoReference = ⊤
IsOfSlaves (Unmeasurable k) = ⊤
IsOfSlaves r = ⊥
