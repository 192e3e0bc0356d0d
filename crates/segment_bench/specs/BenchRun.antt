-- What a bench has come to.
use Rattle.std.specs.Prelude.{ℕ, Option, Some, IsSome, Ok, Err}
use Rattle.dc_bench.specs.BenchState.{BenchState}
use Rattle.master_script.specs.Script.{Answer}
use Rattle.run_of_file.specs.AtEnd.{IsAtEnd}
use Rattle.run_of_file.specs.RunOfFile.{frames_given, run_of}
use Rattle.segment_file.specs.Segment.{SegmentValue}

-- The bench stands at the end of the whole run of the file, which has this answer; where it is Ok, `run` was given the file's
-- number of frames, and the master has a start.
abbrev pub HasRun : SegmentValue → BenchState → Answer → Type 0
HasRun s b (Ok tt) = IsAtEnd s (Some (frames_given s)) (run_of s) b.wire b.master (Ok tt) × IsSome b.master.start
HasRun s b (Err e) = (frames : Option ℕ) × IsAtEnd s frames (run_of s) b.wire b.master (Err e)
