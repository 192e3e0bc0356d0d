-- The phases of a run.
use Rattle.std.specs.Prelude.{◌≡◌, List, ◌++◌, Option, Some, Ok}
use Rattle.ecat_link.specs.Exchanges.{Exchange}
use Rattle.run_of_file.specs.RunOfFile.{RunEnd, armed, commissioned, settled}
use Rattle.segment_file.specs.Segment.{SegmentValue}

-- a run has come to the end of a phase with Ok, by these exchanges
pub record EndsBy (o : Option RunEnd) (es : List Exchange) : Type 0 where
  pub run : RunEnd
  pub is : o ≡ Some run
  pub ok : run.answer ≡ Ok tt
  pub all : run.exchanges ≡ es

-- the exchanges of a run by phases, of which those before the last ended with Ok
pub record Phases (s : SegmentValue) (run : RunEnd) : Type 0 where
  pub commissioning : List Exchange
  pub settling : List Exchange
  pub arming : List Exchange
  pub running : List Exchange
  pub commissioned : EndsBy (commissioned s) commissioning
  pub settled : EndsBy (settled s) (commissioning ++ settling)
  pub armed : EndsBy (armed s) ((commissioning ++ settling) ++ arming)
  pub all : run.exchanges ≡ ((commissioning ++ settling) ++ arming) ++ running
