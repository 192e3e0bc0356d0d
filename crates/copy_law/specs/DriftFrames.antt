-- The drift frames of a run, and what a frame brings the clocks of its segment.
use Rattle.std.specs.Prelude.{◌≡◌, ℕ, ◌+◌, ◌*◌, nat_lt, List, [], ◌∷◌, ◌++◌, length, Some, if◌then◌else◌}
use Rattle.dc_bounds.specs.LockNumbers.{period_fs}
use Rattle.ecat_link.specs.Exchanges.{Exchange, Runs}
use Rattle.frame_pass.specs.ClockHistory.{events_passed}
use Rattle.frame_pass.specs.FramePass.{datagrams_behind}
use Rattle.frame_pass.specs.Reach.{reach_of}
use Rattle.frame_pass.specs.SegmentState.{SegmentState, leaves_at, segment_step}
use Rattle.frame_pass.specs.SlaveState.{Slave}
use Rattle.local_clock.specs.Reading.{Happening}
use Rattle.run_of_file.specs.RunOfFile.{RunEnd, commissioned, ran}
use Rattle.segment_file.specs.Segment.{SegmentValue}

-- Drift frame k of the run of a file: behind commissioning it is the k-th frame that the run sends, and it finds the segment in this state.
pub record IsDriftFrame (s : SegmentValue) (k : ℕ) (t : SegmentState) (e : Exchange) : Type 0 where
  pub first : RunEnd
  pub run : RunEnd
  pub commissioned : commissioned s ≡ Some first
  pub ran : ran s ≡ Some run
  pub before : List Exchange
  pub rest : List Exchange
  pub all : run.exchanges ≡ first.exchanges ++ (before ++ e ∷ rest)
  pub number : k ≡ length before + 1
  pub led : Runs segment_step (Some first.state) before (Some t)

-- it leaves at C + k frame periods, where commissioning sent C frames
abbrev pub sent_at : SegmentValue → RunEnd → ℕ → ℕ
sent_at s first k = (length first.exchanges + k) * period_fs s.head.frame_ns

-- what a frame brings the clock of the slave at a position
abbrev pub brought : SegmentState → Exchange → ℕ → Slave → List Happening
brought t e p v =
    let sent = leaves_at t e.wait_ns in
    if nat_lt p (reach_of t e.sent) then events_passed sent v (datagrams_behind p sent t.slaves e.sent.datagrams) else []
