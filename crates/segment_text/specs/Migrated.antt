-- A segment in version 2 of the format.
use Rattle.segment_file.specs.Segment.{SegmentValue}

-- the same segment, but for its version
abbrev pub migrated : SegmentValue → SegmentValue
migrated s = record {
  head = record {
    version = 2;
    ppm = s.head.ppm;
    frame_ns = s.head.frame_ns;
    speed = s.head.speed;
    loss_run = s.head.loss_run;
    epoch_ns = s.head.epoch_ns;
    cycle_ns = s.head.cycle_ns;
    cycles = s.head.cycles;
  };
  rows = s.rows;
  losses = s.losses;
}
