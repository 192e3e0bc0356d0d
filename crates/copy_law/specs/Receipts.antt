-- From which drift frames a clock receives, and what.
use Rattle.std.specs.Prelude.{◌≡◌, ℕ, ◌+◌, ◌%◌, ◌^◌, ◌==◌, ◌&&◌, not, Bool, Option, Some, None}
use Rattle.cable_tree.specs.Positions.{position_of}
use Rattle.esc_regs.specs.RegisterFile.{Registers}
use Rattle.frame_pass.specs.Advancing.{measuring_at}
use Rattle.frame_pass.specs.LiveRegisters.{system_time}
use Rattle.frame_pass.specs.SlaveState.{Slave, Timing}
use Rattle.honest_slaves.specs.FileSlaves.{kind_at}
use Rattle.local_clock.specs.Reading.{Happening, received}
use Rattle.lost_step.specs.LostStep.{comes_to}
use Rattle.segment_file.specs.Segment.{SegmentValue, reference_row, tree_rows}
use Rattle.loss_list.specs.Losses.{loss_at}
use Rattle.esc_regs.specs.Kinds.{has_clock}
use Rattle.loss_list.specs.declared.loss_row.Phase.TheVariants.{Drift}
use Rattle.wrap_time.specs.WordDifference.{word_difference}

-- the position of the reference
pub record IsReference (s : SegmentValue) (r : ℕ) : Type 0 where
  pub row : ℕ
  pub found : reference_row s.rows ≡ Some row
  pub position : r ≡ position_of (tree_rows s.rows) row

-- at a position there is a clock, and not the reference, and drift frame k comes to it
abbrev pub receives : SegmentValue → ℕ → ℕ → ℕ → Bool
receives s r k p = has_clock (kind_at s p) && (not (p == r) && comes_to (loss_at s.losses Drift k) p)

-- the system time that a slave has at an instant; 0 where it has no clock
abbrev pub time_of : Registers → ℕ → Option Timing → ℕ
time_of r at None = 0
time_of r at (Some m) = system_time (measuring_at at (record { registers = r; timing = m }))

-- its low half when a frame arrives that left then
abbrev pub arrival_time : ℕ → Slave → ℕ
arrival_time sent v = time_of v.registers (sent + v.visits.arrive) v.timing % 2 ^ 32

-- the receipt of the difference of a clock's time and the reference's, each when the frame arrives there
abbrev pub receipt : ℕ → Slave → Slave → Happening
receipt sent v reference = record {
  instant = sent + v.visits.arrive;
  event = received (word_difference 32 (arrival_time sent v) (arrival_time sent reference));
}
