-- The run of a file is the run from the start that the file gives.
use Rattle.std.proofs.Common.{◌≡◌, refl}
use Rattle.segment_file.specs.Segment.{SegmentValue}
use Rattle.segment_start.specs.Start.{started_segment}
use Rattle.run_of_file.specs.RunOfFile.{commissioned_from, settled_from, armed_from, ran_from, run_from, commissioned, settled, armed, ran, run_of}

pub commissioned_at_start : (s : SegmentValue) → commissioned s ≡ commissioned_from s (started_segment s)
unfolding commissioned
commissioned_at_start s = refl

pub settled_at_start : (s : SegmentValue) → settled s ≡ settled_from s (started_segment s)
unfolding commissioned settled
settled_at_start s = refl

pub armed_at_start : (s : SegmentValue) → armed s ≡ armed_from s (started_segment s)
unfolding commissioned settled armed
armed_at_start s = refl

pub ran_at_start : (s : SegmentValue) → ran s ≡ ran_from s (started_segment s)
unfolding commissioned settled armed ran
ran_at_start s = refl

pub run_at_start : (s : SegmentValue) → run_of s ≡ run_from s (started_segment s)
unfolding commissioned settled armed ran run_of
run_at_start s = refl
