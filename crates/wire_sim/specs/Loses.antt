-- Which frames are lost.
use Rattle.std.specs.Prelude.{◌+◌, ◌≤◌, ◌⊎◌, IsSome}
use Rattle.ecat_frame.specs.FrameGrammar.{FrameValue}
use Rattle.loss_list.specs.Losses.{loss_at}
use Rattle.frame_pass.specs.SegmentState.{SegmentState, phase_of, number_of}

-- 1,000,000 frames were sent, or the next number of the frame's phase is listed
abbrev pub LosesNext : SegmentState → FrameValue → Type 0
LosesNext s f = (1000000 ≤ s.sent) ⊎ IsSome (loss_at s.losses (phase_of f.datagrams) (number_of (phase_of f.datagrams) s + 1))
