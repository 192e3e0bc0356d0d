-- How far a script has come after some exchanges: a fold over them.
use Rattle.std.specs.Prelude.{ℕ, ◌+◌, ◌-◌, ◌*◌, ◌%◌, ◌^◌, ◌==◌, if◌then◌else◌, List, [], ◌∷◌, ◌++◌, map, fold, replicate, Option, Some, None, Result, Ok, Err}
use Rattle.ecat_frame.specs.FrameGrammar.{FrameValue}
use Rattle.ecat_link.specs.Exchanges.{Exchange}
use Rattle.wrap_time.specs.Extended.{extended}
use Rattle.dc_delay.specs.ShapeRows.{positions}
use Rattle.master_script.specs.Config.{ConfigValue, slaves, settle_frames}
use Rattle.master_script.specs.Judged.{judged}
use Rattle.master_script.specs.Slaves.{SlaveWords, measuring, clocks, judgement}
use Rattle.master_script.specs.Steps.{expected, learned, low_in}
use Rattle.master_script.specs.Words.{Words}
use Rattle.master_script.specs.declared.step.Refusal.{Refusal}
use Rattle.master_script.specs.declared.step.Refusal.TheVariants.{Lost}
use Rattle.master_script.specs.declared.step.Step.{Step}
use Rattle.master_script.specs.declared.step.Step.TheVariants.{Count, Identify, Rate, Latch, Times, Set, Settle, Drift, Arm}

-- the phases of the script, one for each call
pub data Phase : Type 0 where
  Commissioning : Phase
  Settling : Phase
  Arming : Phase
  Running : Phase

-- The phase; the steps that it has still to ask, and how often the first of them was lost; how many frames were sent, how
-- many of these were lost, and how many were drift frames; how many of the drift frames were sent in the run phase; what was
-- learned; and the refusal, after which nothing is sent any more.
pub record Progress : Type 0 where
  pub phase : Phase
  pub todo : List Step
  pub tries : ℕ
  pub sent : ℕ
  pub lost : ℕ
  pub drifts : ℕ
  pub ran : ℕ
  pub words : Words
  pub refused : Option Refusal

-- the steps of commissioning up to the judgement of the slaves
abbrev pub first_steps : ConfigValue → List Step
first_steps cfg = Count ∷ map Identify (positions (slaves cfg))

-- the steps of commissioning after it
abbrev pub later_steps : List SlaveWords → List Step
later_steps ss = Rate ∷ Latch ∷ map Times (measuring ss) ++ map Set (clocks ss)

-- the steps of arming
abbrev pub arm_steps : List SlaveWords → List Step
arm_steps ss = map Arm (clocks ss)

-- before the first exchange
abbrev pub beginning : ConfigValue → Progress
beginning cfg = record {
  phase = Commissioning;
  todo = first_steps cfg;
  tries = 0;
  sent = 0;
  lost = 0;
  drifts = 0;
  ran = 0;
  words = record { slaves = []; reference = None; latches = replicate (slaves cfg) None; latched = 0; time = None };
  refused = None;
}

-- 1 for a frame that was lost
abbrev pub lost_one : Option FrameValue → ℕ
lost_one None = 1
lost_one (Some f) = 0

-- 1 in a phase whose frames are drift frames: every one after commissioning
abbrev pub drift_one : Phase → ℕ
drift_one Commissioning = 0
drift_one Settling = 1
drift_one Arming = 1
drift_one Running = 1

-- 1 in the run phase
abbrev pub run_one : Phase → ℕ
run_one Commissioning = 0
run_one Settling = 0
run_one Arming = 0
run_one Running = 1

-- one frame more was sent, and came back or not
abbrev pub counted : Progress → Option FrameValue → Progress
counted p back =
    record p { sent = p.sent + 1; lost = p.lost + lost_one back; drifts = p.drifts + drift_one p.phase; ran = p.ran + run_one p.phase }

-- a step is lost at its third try
abbrev pub lost_at : Step → ℕ → Option Refusal
lost_at step tries = if tries == 3 then Some (Lost step) else None

-- the slaves were judged
abbrev pub planned : Progress → Result ℕ Refusal → Progress
planned p (Err r) = record p { refused = Some r }
planned p (Ok reference) = record p { todo = later_steps p.words.slaves; words = record (p.words) { reference = Some reference } }

-- the last of the steps was answered: of those before the judgement, of those after it, or of arming
abbrev pub done : Progress → Phase → Option ℕ → Progress
done p Commissioning None = planned p (judgement p.words.slaves)
done p Commissioning (Some reference) = record p { phase = Settling }
done p Settling reference = p
done p Arming reference = record p { phase = Running }
done p Running reference = p

-- these steps are still to be asked
abbrev pub turned : Progress → List Step → Progress
turned p [] = done p p.phase p.words.reference
turned p (next ∷ rest) = p

-- the step that was asked is lost once more
abbrev pub missed : Progress → Step → Progress
missed p step = record p { tries = p.tries + 1; refused = lost_at step (p.tries + 1) }

-- the step that was asked came back, and is not refused
abbrev pub noted : Progress → Step → List Step → FrameValue → Progress
noted p step rest reply = record p { tries = 0; todo = rest; words = learned p.sent step reply p.words }

-- the step that was asked came back, and is refused or not
abbrev pub answered : Progress → Step → List Step → FrameValue → Option Refusal → Progress
answered p step rest reply (Some r) = record p { refused = Some r }
answered p step rest reply None = turned (noted p step rest reply) rest

-- an exchange of a step that is asked, up to three times
abbrev pub asked_by : ConfigValue → Progress → Step → List Step → FrameValue → Option FrameValue → Progress
asked_by cfg p step rest sent None = missed p step
asked_by cfg p step rest sent (Some reply) = answered p step rest reply (judged step (expected cfg p.words step reply) sent reply)

-- an exchange while these steps are to be asked
abbrev pub asked : ConfigValue → Progress → FrameValue → Option FrameValue → List Step → Progress
asked cfg p sent back [] = p
asked cfg p sent back (step ∷ rest) = asked_by cfg p step rest sent back

-- after the last settle frame: at least one of them came back, or Settle is lost
abbrev pub settled_by : Progress → Option ℕ → Progress
settled_by p None = record p { refused = Some (Lost Settle) }
settled_by p (Some time) = record p { phase = Arming; todo = arm_steps p.words.slaves }

-- the settle phase ends behind its last frame, be it lost or not
abbrev pub settled : ConfigValue → Progress → Progress
settled cfg p = if p.drifts == settle_frames cfg then settled_by p p.words.time else p

-- the time that is expected of the reference in this frame: the epoch, and a period for each sending since the latch
abbrev pub expected_time : ConfigValue → Progress → ℕ
expected_time cfg p = (cfg.epoch_ns + cfg.frame_ns * (p.sent - p.words.latched)) % 2 ^ 64

-- a settle frame brought the time of the reference
abbrev pub brought : ConfigValue → Progress → FrameValue → Progress
brought cfg p reply = record p { words = record (p.words) { time = Some (extended (low_in reply) (expected_time cfg p)) } }

-- a settle frame came back, and is refused or not
abbrev pub timed : ConfigValue → Progress → FrameValue → Option Refusal → Progress
timed cfg p reply (Some r) = record p { refused = Some r }
timed cfg p reply None = settled cfg (brought cfg p reply)

-- an exchange of settling; a frame that is lost is not sent again
abbrev pub settling : ConfigValue → Progress → FrameValue → Option FrameValue → Progress
settling cfg p sent None = settled cfg p
settling cfg p sent (Some reply) = timed cfg p reply (judged (Drift p.drifts) (expected cfg p.words (Drift p.drifts) reply) sent reply)

-- an exchange of running; neither is this one
abbrev pub running : ConfigValue → Progress → FrameValue → Option FrameValue → Progress
running cfg p sent None = p
running cfg p sent (Some reply) = record p { refused = judged (Drift p.drifts) (expected cfg p.words (Drift p.drifts) reply) sent reply }

-- an exchange that is counted, by refusal and phase
abbrev pub moved : ConfigValue → Progress → FrameValue → Option FrameValue → Option Refusal → Phase → Progress
moved cfg p sent back (Some r) phase = p
moved cfg p sent back None Commissioning = asked cfg p sent back p.todo
moved cfg p sent back None Settling = settling cfg p sent back
moved cfg p sent back None Arming = asked cfg p sent back p.todo
moved cfg p sent back None Running = running cfg p sent back

-- one exchange more
unfoldable pub after : ConfigValue → Progress → Exchange → Progress
after cfg p e = moved cfg (counted p e.back) e.sent e.back p.refused p.phase

-- how far the script has come after these exchanges
unfoldable pub progress : ConfigValue → List Exchange → Progress
progress cfg es = fold (after cfg) (beginning cfg) es
