-- How many frames a command sends.
use Rattle.std.specs.Prelude.{◌≡◌, ℕ, ◌+◌, Some}
use Rattle.dc_bench.specs.BenchState.{BenchState}
use Rattle.ecat_link.specs.Exchanges.{lost_among}
use Rattle.run_counts.specs.Phases.{Phases}
use Rattle.run_counts.specs.Transmissions.{commissioning_sends, whole_sends}
use Rattle.run_of_file.specs.RunOfFile.{RunEnd, run_of}
use Rattle.segment_file.specs.Segment.{SegmentValue}
use Rattle.dc_top.specs.declared.report.Report.{Report}
use Rattle.dc_top.specs.declared.report.Report.TheVariants.{Delays, Run, Drill}

-- as many as the phases of the whole run want, and those that are lost in commissioning and arming
pub record SendsRun (s : SegmentValue) (sent : ℕ) : Type 0 where
  pub run : RunEnd
  pub is : run_of s ≡ Some run
  pub phases : Phases s run
  pub many : sent ≡ whole_sends s + lost_among phases.commissioning + lost_among phases.arming

-- the master has sent n + N_m + N_c + 3 frames for a table of delays, and the lost ones; or those of a whole run
abbrev pub Sends : Report → SegmentValue → BenchState → Type 0
Sends Delays s b = b.master.sent ≡ commissioning_sends s + b.master.lost
Sends (Run edges) s b = SendsRun s b.master.sent
Sends Drill s b = SendsRun s b.master.sent
