-- A bench before its first call.
use Rattle.std.proofs.Common.{◌≡◌, ap}
use Rattle.segment_file.specs.Segment.{SegmentValue}
use Rattle.segment_start.specs.Start.{started_segment}
use Rattle.frame_pass.specs.SegmentState.{SegmentState}

-- nothing was sent over its wire
pub unsent : (s : SegmentValue) (w : SegmentState) → w ≡ started_segment s → w.sent ≡ 0
unfolding started_segment
unsent s w is = ap (λ (v : SegmentState). v.sent) is
