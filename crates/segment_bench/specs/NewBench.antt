-- A bench before its first call.
use Rattle.std.specs.Prelude.{◌≡◌, None, []}
use Rattle.dc_bench.specs.BenchState.{BenchState}
use Rattle.frame_pass.specs.SegmentState.{SegmentState}
use Rattle.segment_file.specs.Legal.{IsLegal}
use Rattle.segment_file.specs.Segment.{SegmentValue}
use Rattle.segment_start.specs.Start.{started_segment}
use Rattle.run_of_file.specs.RunOfFile.{master_after}

-- a wire in this state, and the master of a legal segment, which has sent nothing
pub record IsNewWith (s : SegmentValue) (start : SegmentState) (b : BenchState) : Type 0 where
  pub legal : IsLegal s
  pub wire : b.wire ≡ start
  pub master : b.master ≡ master_after s None []

-- the same, where the wire is as the file has it, so that nothing was sent over it
abbrev pub IsNew : SegmentValue → BenchState → Type 0
IsNew s b = IsNewWith s (started_segment s) b
