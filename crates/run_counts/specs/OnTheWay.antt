-- Where a segment stands on the way of its run.
use Rattle.std.specs.Prelude.{◌≡◌, ℕ, ◌+◌, ◌*◌}
use Rattle.dc_bounds.specs.LockNumbers.{period_fs}
use Rattle.frame_pass.specs.SegmentState.{SegmentState, leaves_at}
use Rattle.segment_file.specs.Segment.{SegmentValue}

-- So many frames were sent, so many of them drift frames, and all others commission frames. Sending k was at k frame periods, and the
-- next one leaves a period later. The segment loses the frames that the file lists.
pub record StandsAfter (s : SegmentValue) (sendings drifts : ℕ) (t : SegmentState) : Type 0 where
  pub sent : t.sent ≡ sendings
  pub drift : t.drift ≡ drifts
  pub commission : t.commission + drifts ≡ sendings
  pub last : t.last ≡ sendings * period_fs s.head.frame_ns
  pub next : leaves_at t s.head.frame_ns ≡ (sendings + 1) * period_fs s.head.frame_ns
  pub losses : t.losses ≡ s.losses
