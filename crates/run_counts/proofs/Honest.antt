-- What honest replies are, over the run of a segment.
use Rattle.std.specs.Prelude.{◌≡◌, ℕ, Some, Err}
use Rattle.lost_step.specs.LostStep.{measuring_positions, clock_positions}
use Rattle.master_script.specs.Progress.{progress}
use Rattle.master_script.specs.Slaves.{measuring, clocks}
use Rattle.master_script.specs.Words.{Words}
use Rattle.master_script.specs.declared.step.MasterError.TheVariants.{Refused}
use Rattle.master_script.specs.declared.step.Refusal.{Refusal}
use Rattle.master_script.specs.declared.step.Refusal.TheVariants.{Lost}
use Rattle.master_script.specs.declared.step.Step.{Step}
use Rattle.segment_file.specs.Segment.{SegmentValue}
use Rattle.run_of_file.specs.MasterOfFile.{master_of}
use Rattle.run_of_file.specs.RunOfFile.{RunEnd, commissioned, settled, armed, ran}

-- once the slaves are judged, those that told that they measure, and those that told that they are clocks, are the file's
pub record TellsKinds (s : SegmentValue) (w : Words) : Type 0 where
  pub measuring : (reference : ℕ) → w.reference ≡ Some reference → measuring w.slaves ≡ measuring_positions s
  pub clocks : (reference : ℕ) → w.reference ≡ Some reference → clocks w.slaves ≡ clock_positions s

-- a run is refused for a lost step alone: every reply passes the script's tests, and the slaves can be commissioned
abbrev pub IsRefusedForLoss : RunEnd → Type 0
IsRefusedForLoss run = (r : Refusal) → run.answer ≡ Err (Refused r) → (step : Step) × (r ≡ Lost step)

-- the same up to the end of each phase
pub record HasHonestReplies (s : SegmentValue) : Type 0 where
  pub commissioned : (run : RunEnd) → commissioned s ≡ Some run → IsRefusedForLoss run × TellsKinds s (progress (master_of s) run.exchanges).words
  pub settled : (run : RunEnd) → settled s ≡ Some run → IsRefusedForLoss run
  pub armed : (run : RunEnd) → armed s ≡ Some run → IsRefusedForLoss run
  pub ran : (run : RunEnd) → ran s ≡ Some run → IsRefusedForLoss run
