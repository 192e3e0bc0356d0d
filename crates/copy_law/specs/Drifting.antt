-- Where the segment of a file is after commissioning, drift frame by drift frame.
use Rattle.std.specs.Prelude.{◌≡◌, ℕ, ◌+◌, List, ◌++◌, length, Some, Ok}
use Rattle.copy_law.specs.HeldOffsets.{AreSet}
use Rattle.copy_law.specs.DriftFrames.{sent_at}
use Rattle.copy_law.specs.Speeds.{AllCorrect}
use Rattle.delay_law.specs.OfFile.{IsOfFile}
use Rattle.ecat_link.specs.Exchanges.{Exchange, Runs}
use Rattle.frame_pass.specs.SegmentState.{SegmentState, leaves_at, segment_step}
use Rattle.honest_slaves.specs.FileSlaves.{kind_at, status_at}
use Rattle.honest_slaves.specs.Told.{AreInOrder}
use Rattle.run_of_file.specs.Commissioned.{words_after}
use Rattle.run_of_file.specs.RunOfFile.{RunEnd, commissioned, ran}
use Rattle.segment_file.specs.Segment.{SegmentValue}

-- Behind k drift frames of its run, the segment is in this state. Commissioning has ended with Ok, and other frames may follow.
pub record IsBehind (s : SegmentValue) (k : ℕ) (t : SegmentState) : Type 0 where
  pub first : RunEnd
  pub run : RunEnd
  pub commissioned : commissioned s ≡ Some first
  pub ok : first.answer ≡ Ok tt
  pub ran : ran s ≡ Some run
  pub before : List Exchange
  pub rest : List Exchange
  pub all : run.exchanges ≡ first.exchanges ++ (before ++ rest)
  pub number : k ≡ length before
  pub led : Runs segment_step (Some first.state) before (Some t)

-- What holds of that state. The slaves are those of the file, sound, and each has its station address. So many frames were sent, k of
-- them drift frames, the last one at its frame period, and the next one leaves a period later. Each clock holds the offset and the delay
-- that commissioning left, and corrects by the file's speed.
pub record StandsBehind (s : SegmentValue) (first : RunEnd) (k : ℕ) (t : SegmentState) : Type 0 where
  pub file : IsOfFile s t
  pub named : AreInOrder (kind_at s) (status_at s) (length s.rows) (length s.rows) t.slaves
  pub sent : t.sent ≡ length first.exchanges + k
  pub drift : t.drift ≡ k
  pub last : t.last ≡ sent_at s first k
  pub next : leaves_at t s.head.frame_ns ≡ sent_at s first (k + 1)
  pub set : AreSet s (words_after s first) t.slaves
  pub speeds : AllCorrect s t.slaves
