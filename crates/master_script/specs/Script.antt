-- The script: what each call sends next, after which wait, or how it ends.
use Rattle.std.specs.Prelude.{ℕ, ◌+◌, nat_lt, if◌then◌else◌, List, [], ◌∷◌, Option, Some, None, Result, Ok, Err}
use Rattle.ecat_link.specs.Exchanges.{Exchange}
use Rattle.ecat_link.specs.Serves.{Next, Send, End}
use Rattle.master_script.specs.Config.{ConfigValue}
use Rattle.master_script.specs.Progress.{Phase, Commissioning, Settling, Arming, Running, Progress, progress}
use Rattle.master_script.specs.Steps.{frame_of}
use Rattle.master_script.specs.declared.step.MasterError.{MasterError}
use Rattle.master_script.specs.declared.step.MasterError.TheVariants.{Refused}
use Rattle.master_script.specs.declared.step.Refusal.{Refusal}
use Rattle.master_script.specs.declared.step.Step.{Step}
use Rattle.master_script.specs.declared.step.Step.TheVariants.{Drift}

-- the calls of a master; `run` has the number of frames that it is given
pub data Call : Type 0 where
  Commission : Call
  Settle : Call
  Arm : Call
  Run : (frames : ℕ) → Call

-- how a call ends; `Spent` is no answer of the script, since a spent master follows none
abbrev pub Answer : Type 0
Answer = Result (Unit {0}) MasterError

-- the frame of a step, one period after the one before
abbrev pub sends : ConfigValue → Progress → Step → Next Answer
sends cfg p step = Send cfg.frame_ns (frame_of cfg p.words step)

-- the first of the steps that are still to be asked
abbrev pub asks_next : ConfigValue → Progress → List Step → Next Answer
asks_next cfg p [] = End (Ok tt)
asks_next cfg p (step ∷ rest) = sends cfg p step

-- the drift frame of the next number
abbrev pub drifts_next : ConfigValue → Progress → Next Answer
drifts_next cfg p = sends cfg p (Drift (p.drifts + 1))

-- A call sends in its own phase, and ends with Ok in every other: behind its own, since a master makes no call ahead of it.
abbrev pub next_in : ConfigValue → Progress → Call → Phase → Next Answer
next_in cfg p Commission Commissioning = asks_next cfg p p.todo
next_in cfg p Settle Settling = drifts_next cfg p
next_in cfg p Arm Arming = asks_next cfg p p.todo
next_in cfg p (Run frames) Running = if nat_lt p.ran frames then drifts_next cfg p else End (Ok tt)
next_in cfg p call phase = End (Ok tt)

-- a refusal ends it
abbrev pub next_by : ConfigValue → Progress → Call → Option Refusal → Next Answer
next_by cfg p call (Some r) = End (Err (Refused r))
next_by cfg p call None = next_in cfg p call p.phase

-- what a call wants after these exchanges
unfoldable pub script : ConfigValue → Call → List Exchange → Next Answer
script cfg call es = next_by cfg (progress cfg es) call (progress cfg es).refused
