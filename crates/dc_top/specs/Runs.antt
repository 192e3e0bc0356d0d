-- The commands that drive a master over a wire: how far the run of a segment goes, and what is written of it.
use Rattle.std.specs.Prelude.{◌≡◌, ◌≤◌, ⊤, ℕ, Bool, true, false, List, Option, Some, None, Ok, Err}
use Rattle.copy_law.specs.Together.{AreCopiesNear, AreLocked}
use Rattle.dc_bench.specs.BenchState.{BenchState}
use Rattle.delay_law.specs.NearDelays.{AreNear}
use Rattle.edge_law.specs.InWindow.{AreEdgesWithin}
use Rattle.edge_report.specs.Delays.{AreDelays}
use Rattle.lost_step.specs.LostStep.{lost_step_of}
use Rattle.master_script.specs.Script.{Answer}
use Rattle.master_script.specs.declared.step.MasterError.TheVariants.{Refused}
use Rattle.master_script.specs.declared.step.Refusal.TheVariants.{Lost}
use Rattle.master_script.specs.declared.step.Step.{Step}
use Rattle.run_of_file.specs.AtEnd.{IsAtEnd}
use Rattle.run_of_file.specs.RunOfFile.{commissioned}
use Rattle.segment_bench.specs.BenchRun.{HasRun}
use Rattle.segment_file.specs.Segment.{SegmentValue}
use Rattle.bench_report.specs.Reports.{drill_text, report_text, table_text}
use Rattle.dc_top.specs.Transmissions.{Sends}
use Rattle.dc_top.specs.declared.report.Report.{Report}
use Rattle.dc_top.specs.declared.report.Report.TheVariants.{Delays, Run, Drill}

-- the bench stands where its run has come, with this answer: `delays` goes to the end of commissioning, the others to the end of the run
abbrev pub HasMade : Report → SegmentValue → BenchState → Answer → Type 0
HasMade Delays s b answer = IsAtEnd s None (commissioned s) b.wire b.master answer
HasMade (Run edges) s b answer = HasRun s b answer
HasMade Drill s b answer = HasRun s b answer

-- whether arming is reached
abbrev pub goes_on : Report → Bool
goes_on Delays = false
goes_on (Run edges) = true
goes_on Drill = true

-- what is written of it
abbrev pub text_of_report : Report → SegmentValue → BenchState → List ℕ
text_of_report Delays s b = table_text s b
text_of_report (Run edges) s b = report_text s b edges
text_of_report Drill s b = drill_text s b

-- The clocks of a whole run come together, and stay: every difference that a clock receives is within the lock numbers, and from the end of
-- settling on its local copy is within X of that of the reference.
pub record AreTogether (s : SegmentValue) : Type 0 where
  pub lock_in : AreLocked s
  pub copies : AreCopiesNear s

-- commissioning alone sends no drift frames, and says nothing of it
abbrev pub Together : Report → SegmentValue → Type 0
Together Delays s = ⊤
Together (Run edges) s = AreTogether s
Together Drill s = AreTogether s

-- its units have raised all their edges, within the window of each two; commissioning alone arms none
abbrev pub InWindow : Report → SegmentValue → BenchState → Type 0
InWindow Delays s b = ⊤
InWindow (Run edges) s b = AreEdgesWithin s b.wire.slaves
InWindow Drill s b = AreEdgesWithin s b.wire.slaves

-- A bench has made the run of this segment, of which no step loses its three tries, and the text is what is written of it. Each clock has
-- a delay, which lies within the delay bound of the true one; the clocks of a whole run come together, and their edges lie within the window; the
-- frames that were sent are as many as the file tells, and few.
pub record IsReportOf (report : Report) (segment : SegmentValue) (text : List ℕ) (bench : BenchState) : Type 0 where
  pub run : HasMade report segment bench (Ok tt)
  pub losses : lost_step_of segment (goes_on report) ≡ None
  pub delays : AreDelays segment bench.master.delays
  pub near : AreNear segment bench.master.delays
  pub together : Together report segment
  pub window : InWindow report segment bench
  pub sends : Sends report segment bench
  pub few : bench.master.sent ≤ 100000
  pub written : text ≡ text_of_report report segment bench

abbrev pub IsReport : Report → SegmentValue → List ℕ → Option BenchState → Type 0
IsReport report s text None = ⊥
IsReport report s text (Some b) = IsReportOf report s text b

-- This is the first step of the run of this segment whose three tries are listed as lost, and the run ended there. The delays are
-- near where that is after commissioning, the clocks come together as far as the run has come, and the frames that were sent are few.
pub record IsLostBy (report : Report) (segment : SegmentValue) (step : Step) (bench : BenchState) : Type 0 where
  pub run : HasMade report segment bench (Err (Refused (Lost step)))
  pub losses : lost_step_of segment (goes_on report) ≡ Some step
  pub near : lost_step_of segment false ≡ None → AreNear segment bench.master.delays
  pub together : Together report segment
  pub few : bench.master.sent ≤ 100000

abbrev pub IsLost : Report → SegmentValue → Step → Option BenchState → Type 0
IsLost report s step None = ⊥
IsLost report s step (Some b) = IsLostBy report s step b
