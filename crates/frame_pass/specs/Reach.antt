-- How many slaves the next frame reaches.
use Rattle.std.specs.Prelude.{ℕ, ◌+◌, List, length, Option, Some, None}
use Rattle.ecat_frame.specs.FrameGrammar.{FrameValue}
use Rattle.loss_list.specs.Losses.{loss_at}
use Rattle.frame_pass.specs.SlaveState.{Slave}
use Rattle.frame_pass.specs.SegmentState.{SegmentState, phase_of, number_of}

-- all, where it is not lost
abbrev pub reached_by : Option ℕ → List Slave → ℕ
reached_by None slaves = length slaves
reached_by (Some after) slaves = after

-- by the number that it will have among the frames of its phase
unfoldable pub reach_of : SegmentState → FrameValue → ℕ
reach_of s f = reached_by (loss_at s.losses (phase_of f.datagrams) (number_of (phase_of f.datagrams) s + 1)) s.slaves
