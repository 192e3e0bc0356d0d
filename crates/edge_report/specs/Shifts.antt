-- The sizes of a slave's shifts.
use Rattle.std.specs.Prelude.{◌<◌, IfSome}
use Rattle.segment_file.specs.Segment.{RowValue}

-- shift and SYNC1 time are below half a second
pub record HasSmallShifts (r : RowValue) : Type 0 where
  pub shift_ns : r.shift_ns < 500000000
  pub sync1_ns : IfSome r.sync1_ns (λ ns. ns < 500000000)
