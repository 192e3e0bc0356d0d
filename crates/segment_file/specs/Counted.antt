-- What holds of the counts of every segment.
use Rattle.std.specs.Prelude.{◌≤◌}
use Rattle.segment_file.specs.Segment.{CountsValue}

pub record IsCounted (c : CountsValue) : Type 0 where
  pub slaves : c.slaves ≤ 256
  pub measuring : c.measuring ≤ 256
  pub clocks : c.clocks ≤ c.measuring
  pub signals : c.signals ≤ 512
