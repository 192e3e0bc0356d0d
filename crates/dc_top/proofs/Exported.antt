-- Lemmas that crates above cite: why a legal file is refused, and what is said of a bench that has made its run.
use Rattle.std.proofs.Common.{◌≡◌, ℕ, List, Ok, Err, refl}
use Rattle.dc_bench.specs.BenchState.{BenchState}
use Rattle.master_script.specs.declared.step.MasterError.TheVariants.{Refused}
use Rattle.master_script.specs.declared.step.Refusal.TheVariants.{Lost}
use Rattle.master_script.specs.declared.step.Step.{Step}
use Rattle.segment_file.specs.Legal.{IsLegal}
use Rattle.segment_file.specs.Segment.{SegmentValue}
use Rattle.segment_file.specs.Told.{IsSegmentText}
use Rattle.segment_file.specs.declared.seg_error.SegError.TheVariants as error
use Rattle.segment_file.proofs.Exported.{legal_unrefused}
use Rattle.dc_top.specs.Answers.{RefusesFile}
use Rattle.dc_top.specs.Runs.{HasMade, IsLostBy, IsReportOf, text_of_report}
use Rattle.dc_top.specs.SegFaults.{error_of}
use Rattle.dc_top.specs.declared.outcome.Outcome.{Outcome}
use Rattle.dc_top.specs.declared.outcome.Outcome.TheVariants.{BadText, BadSegment, NoMemory}
use Rattle.dc_top.specs.declared.report.Report.{Report}
use Rattle.dc_top.specs.declared.seg_fault.SegFault.{SegFault}
use Rattle.dc_top.specs.declared.seg_fault.SegFault.TheVariants.{Shape, Twice, Tree, Rate, NoReference, Unmeasurable, TooSlow, NoLock, Lead, LossRun, TooMuch}
use Rattle.dc_top.proofs.Behind.{come_together, delays_near, delays_there, frames_few, frames_told, lie_within, near_if_later, none_lost, step_lost}

no_memory : (fault : SegFault) → error_of fault ≡ error.NoMemory → ⊥
no_memory (Shape path) e = cc
no_memory (Twice id) e = cc
no_memory (Tree t) e = cc
no_memory (Rate id) e = cc
no_memory NoReference e = cc
no_memory (Unmeasurable id) e = cc
no_memory TooSlow e = cc
no_memory NoLock e = cc
no_memory Lead e = cc
no_memory (LossRun number) e = cc
no_memory TooMuch e = cc

bad_text : error.BadText ≡ error.NoMemory → ⊥
bad_text e = cc

-- a legal file is refused for want of memory alone
pub only_memory : (bytes : List ℕ) (s : SegmentValue) → IsSegmentText bytes s → (o : Outcome) → RefusesFile bytes o → o ≡ NoMemory
only_memory bytes s is BadText h = absurd (bad_text (legal_unrefused bytes s error.BadText is h))
only_memory bytes s is (BadSegment fault) h = absurd (no_memory fault (legal_unrefused bytes s (error_of fault) is h))
only_memory bytes s is NoMemory h = refl
only_memory bytes s is o h = absurd h

-- what is written of its run
pub reported : (r : Report) (s : SegmentValue) (b : BenchState) → IsLegal s → HasMade r s b (Ok tt) → IsReportOf r s (text_of_report r s b) b
reported r s b legal run = record {
  run = run;
  losses = none_lost r s b legal run;
  delays = delays_there r s b legal run;
  near = delays_near r s b legal run;
  together = come_together r s legal;
  window = lie_within r s b legal run;
  sends = frames_told r s b legal run;
  few = frames_few r s b (Ok tt) legal run;
  written = refl;
}

-- a step of it that is lost
pub told_lost : (r : Report) (s : SegmentValue) (b : BenchState) (step : Step) → IsLegal s → HasMade r s b (Err (Refused (Lost step))) → IsLostBy r s step b
told_lost r s b step legal run =
    let lost = step_lost r s b step legal run in
    record { run = run; losses = lost; near = near_if_later r s b step legal run lost; together = come_together r s legal; few = frames_few r s b (Err (Refused (Lost step))) legal run }
