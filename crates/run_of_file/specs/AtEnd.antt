-- A segment and a master that stand where a run of the file has come.
use Rattle.std.specs.Prelude.{◌≡◌, ℕ, Option, Some}
use Rattle.master_script.specs.Kept.{Kept}
use Rattle.master_script.specs.Script.{Answer}
use Rattle.frame_pass.specs.SegmentState.{SegmentState}
use Rattle.segment_file.specs.Segment.{SegmentValue}
use Rattle.run_of_file.specs.RunOfFile.{RunEnd, master_after}

-- The segment is in the state in which this run leaves it, the master keeps what the script gives over the run's exchanges
-- (where `run` was given this number of frames, once it was called), and the last call has the run's answer.
pub record IsAtEnd (s : SegmentValue) (frames : Option ℕ) (run : Option RunEnd) (segment : SegmentState) (master : Kept)
    (answer : Answer) : Type 0 where
  pub end : RunEnd
  pub run_is : run ≡ Some end
  pub segment_is : segment ≡ end.state
  pub master_is : master ≡ master_after s frames end.exchanges
  pub answer_is : end.answer ≡ answer
