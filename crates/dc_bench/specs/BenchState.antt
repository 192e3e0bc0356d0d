-- What a bench keeps.
use Rattle.master_script.specs.Kept.{Kept}
use Rattle.frame_pass.specs.SegmentState.{SegmentState}

-- the told state of the wire, and what the master keeps
pub record BenchState : Type 0 where
  pub wire : SegmentState
  pub master : Kept
