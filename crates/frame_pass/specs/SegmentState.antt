-- The told state of a segment, and what one sending does to it.
use Rattle.std.specs.Prelude.{ℕ, zero, suc, ◌+◌, ◌*◌, min, max, nat_lt, List, [], ◌∷◌, length, map, Option, Some, None, option_map, if◌then◌else◌}
use Rattle.dc_base.specs.Causes.{raised}
use Rattle.ecat_frame.specs.FrameGrammar.{DatagramValue, FrameValue}
use Rattle.ecat_frame.specs.declared.command.Command.{Command}
use Rattle.ecat_frame.specs.declared.command.Command.TheVariants.{Frmw}
use Rattle.loss_list.specs.Losses.{loss_at}
use Rattle.loss_list.specs.declared.loss_row.LossRow.{LossRow}
use Rattle.loss_list.specs.declared.loss_row.Phase.{Phase}
use Rattle.loss_list.specs.declared.loss_row.Phase.TheVariants.{Commission, Drift}
use Rattle.frame_pass.specs.SlaveState.{Timing, Slave}
use Rattle.frame_pass.specs.Advancing.{advanced_to}
use Rattle.frame_pass.specs.FramePass.{slaves_passed, datagrams_behind, end_of}

-- A segment: its slaves in frame order, its round trip, the frames that it loses; how many commission and drift
-- frames, and how many sendings there were, and how many were lost; the true time of the last sending, and the
-- one before which the next does not leave. Times are in fs.
pub record SegmentState : Type 0 where
  pub slaves : List Slave
  pub round_trip : ℕ
  pub losses : List LossRow
  pub commission : ℕ
  pub drift : ℕ
  pub sent : ℕ
  pub lost : ℕ
  pub last : ℕ
  pub free : ℕ

-- a drift frame begins with a FRMW; every other is a commission frame
abbrev pub phase_by : Command → Phase
phase_by Frmw = Drift
phase_by _ = Commission

abbrev pub phase_of : List DatagramValue → Phase
phase_of [] = Commission
phase_of (d ∷ ds) = phase_by d.head.command

-- when a frame leaves that is sent after a wait (ns), which counts as at most 10,000,000
abbrev pub leaves_at : SegmentState → ℕ → ℕ
leaves_at s wait_ns = max (s.last + 1000000 * min wait_ns 10000000) s.free

-- the frame has a number among those of its phase, from 1
abbrev pub numbered : Phase → SegmentState → SegmentState
numbered Commission s = record s { commission = s.commission + 1 }
numbered Drift s = record s { drift = s.drift + 1 }

abbrev pub number_of : Phase → SegmentState → ℕ
number_of Commission s = s.commission
number_of Drift s = s.drift

-- it leaves at this time, and the next one not before this one is back
abbrev pub leaving : ℕ → SegmentState → SegmentState
leaving at s = record s { sent = s.sent + 1; last = at; free = at + s.round_trip }

-- the slaves behind a frame that reaches the first h of them
abbrev pub reaching : ℕ → SegmentState → List DatagramValue → List Slave
reaching h s ds = slaves_passed h s.last (end_of h s.slaves) s.slaves ds

-- the frame reaches all slaves and comes back (None), or some, and is lost
abbrev pub carried : Option ℕ → SegmentState → FrameValue → SegmentState × Option FrameValue
carried None s f = (
  record s { slaves = reaching (length s.slaves) s f.datagrams },
  Some (record f { datagrams = datagrams_behind (length s.slaves) s.last s.slaves f.datagrams }),
)
carried (Some h) s f = (record s { slaves = reaching h s f.datagrams; lost = raised s.lost }, None)

-- a frame of this phase that was numbered and left: it is lost where its phase and number are listed
abbrev pub carried_of : Phase → SegmentState → FrameValue → SegmentState × Option FrameValue
carried_of phase s f = carried (loss_at s.losses phase (number_of phase s)) s f

-- what one sending does; after 1,000,000 of them a frame is lost before it leaves
unfoldable pub segment_step : SegmentState → ℕ → FrameValue → SegmentState × Option FrameValue
segment_step s wait_ns f =
    if nat_lt s.sent 1000000
    then carried_of (phase_of f.datagrams) (numbered (phase_of f.datagrams) (leaving (leaves_at s wait_ns) s)) f
    else (record s { lost = raised s.lost }, None)

-- every slave is advanced to t, and no frame leaves before
unfoldable pub finished : ℕ → SegmentState → SegmentState
finished t s = record s { slaves = map (advanced_to t) s.slaves; free = max t s.free }

-- an event of latch input 0 comes at t; meant for a clock that stands at true time 0 (`expect_event`)
abbrev pub awaiting : ℕ → Timing → Timing
awaiting t m = record m { event = Some t }

abbrev pub expecting : ℕ → Slave → Slave
expecting t s = record s { timing = option_map (awaiting t) s.timing }

-- the slaves, the one at a position changed
unfoldable pub changed_at : ℕ → (Slave → Slave) → List Slave → List Slave
changed_at position change [] = []
changed_at zero change (s ∷ ss) = change s ∷ ss
changed_at (suc position) change (s ∷ ss) = s ∷ changed_at position change ss

-- the segment that expects it at the slave at a position
unfoldable pub expected_at : ℕ → ℕ → SegmentState → SegmentState
expected_at position t s = record s { slaves = changed_at position (expecting t) s.slaves }
