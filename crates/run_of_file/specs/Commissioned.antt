-- A commissioning of a legal file that ended with Ok.
use Rattle.std.specs.Prelude.{◌≡◌, Some, Ok}
use Rattle.master_script.specs.Progress.{progress}
use Rattle.master_script.specs.Words.{Words}
use Rattle.segment_file.specs.Legal.{IsLegal}
use Rattle.segment_file.specs.Segment.{SegmentValue}
use Rattle.run_of_file.specs.MasterOfFile.{master_of}
use Rattle.run_of_file.specs.RunOfFile.{RunEnd, commissioned}

-- this run is it
pub record IsCommissioned (s : SegmentValue) (run : RunEnd) : Type 0 where
  pub legal : IsLegal s
  pub is : commissioned s ≡ Some run
  pub ok : run.answer ≡ Ok tt

-- what the master of a file has learned in a run
abbrev pub words_after : SegmentValue → RunEnd → Words
words_after s run = (progress (master_of s) run.exchanges).words
