-- What a master keeps, and the exchanges that it stands for.
use Rattle.std.specs.Prelude.{◌≡◌, ℕ, nat_lt, ◌==◌, ◌&&◌, Bool, true, false, not, if◌then◌else◌, List, [], Option, Some, None, is_some}
use Rattle.std.specs.List.{list_any}
use Rattle.ecat_link.specs.Exchanges.{Exchange}
use Rattle.ecat_link.specs.Serves.{End}
use Rattle.master_script.specs.Config.{ConfigValue, settle_frames}
use Rattle.master_script.specs.Progress.{Phase, Commissioning, Settling, Arming, Running, Progress, progress}
use Rattle.master_script.specs.Script.{Call, Run, Answer, script}
use Rattle.master_script.specs.Words.{Words, delays_of, start_at}
use Rattle.master_script.specs.declared.step.Refusal.{Refusal}
use Rattle.master_script.specs.declared.step.Step.{Step}
use Rattle.master_script.specs.declared.step.Step.TheVariants.{Times}
use Rattle.master_script.specs.declared.step.Stage.{Stage}
use Rattle.master_script.specs.declared.step.Stage.TheVariants.{Fresh, Commissioned, Settled, Armed, Ended, Spent}

-- The configuration, the stage and the first refusal; how many frames were sent, how many of these were lost, and how many
-- were drift frames; what was learned; the measured delays by position, empty until all Times came back; and the start time.
pub record Kept : Type 0 where
  pub config : ConfigValue
  pub stage : Stage
  pub refusal : Option Refusal
  pub sent : ℕ
  pub lost : ℕ
  pub drifts : ℕ
  pub words : Words
  pub delays : List (Option ℕ)
  pub start : Option ℕ

-- Armed lasts until `run` is given a number of frames and has sent as many. As long as it is given none, Armed is the stage
-- before the first run frame alone: else a loss in arming and a lost run frame would be kept alike.
abbrev pub run_stage : Option ℕ → ℕ → Stage
run_stage None ran = if ran == 0 then Armed else Ended
run_stage (Some frames) ran = if nat_lt ran frames then Armed else Ended

-- the stage in a phase is the call that has ended last
abbrev pub stage_in : Option ℕ → ℕ → Phase → Stage
stage_in frames ran Commissioning = Fresh
stage_in frames ran Settling = Commissioned
stage_in frames ran Arming = Settled
stage_in frames ran Running = run_stage frames ran

-- after a refusal a master is spent
abbrev pub stage_by : Option ℕ → Progress → Option Refusal → Stage
stage_by frames p (Some r) = Spent
stage_by frames p None = stage_in frames p.ran p.phase

-- the step is a Times
abbrev pub is_times : Step → Bool
is_times (Times q) = true
is_times step = false

-- the slaves are judged, and all Times came back
abbrev pub has_delays : Progress → Bool
has_delays p = is_some p.words.reference && not (list_any is_times p.todo)

-- there is a start time from the first frame of arming on
abbrev pub start_shown : ConfigValue → Progress → Option ℕ
start_shown cfg p = if nat_lt (settle_frames cfg) p.drifts then Some (start_at cfg p.words) else None

-- what is kept where the script has come so far
abbrev pub kept_at : ConfigValue → Option ℕ → Progress → Kept
kept_at cfg frames p = record {
  config = cfg;
  stage = stage_by frames p p.refused;
  refusal = p.refused;
  sent = p.sent;
  lost = p.lost;
  drifts = p.drifts;
  words = p.words;
  delays = if has_delays p then delays_of cfg p.words else [];
  start = start_shown cfg p;
}

-- what a master keeps after these exchanges, where `run` was given this number of frames, once it was called
unfoldable pub kept_after : ConfigValue → Option ℕ → List Exchange → Kept
kept_after cfg frames es = kept_at cfg frames (progress cfg es)

-- a master stands for the lists of exchanges after which it would keep what it keeps
abbrev pub StandsFor : Option ℕ → Kept → List Exchange → Type 0
StandsFor frames m es = m ≡ kept_after m.config frames es

-- how far the script has come where a master rests between two calls, with these steps ahead in this phase
abbrev pub resting : Kept → Phase → List Step → Progress
resting m phase todo = record {
  phase = phase;
  todo = todo;
  tries = 0;
  sent = m.sent;
  lost = m.lost;
  drifts = m.drifts;
  ran = 0;
  words = m.words;
  refused = None;
}

-- the number that a call gives to `run`
abbrev pub given : Call → Option ℕ
given (Run frames) = Some frames
given call = None

-- a call has ended with this answer, and this is kept then
pub record Ends (cfg : ConfigValue) (call : Call) (m : Kept) (answer : Answer) (es : List Exchange) : Type 0 where
  pub end : script cfg call es ≡ End answer
  pub stands : StandsFor (given call) m es
