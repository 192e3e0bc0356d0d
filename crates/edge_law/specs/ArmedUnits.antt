-- The unit of a clock as its last arming left it, and what it raised since.
use Rattle.std.specs.Prelude.{ℕ, ◌+◌, ◌*◌, ◌%◌, ◌^◌, ◌<◌, ◌≤◌, List, Some}
use Rattle.copy_law.specs.Drawn.{arrives_at}
use Rattle.copy_law.specs.History.{clock_of}
use Rattle.delay_law.specs.Resting.{row_there}
use Rattle.frame_pass.specs.Copies.{HasCopies}
use Rattle.frame_pass.specs.SlaveState.{Slave, width}
use Rattle.frame_pass.specs.UnitHistory.{HasRun}
use Rattle.honest_slaves.specs.FileSlaves.{kind_at}
use Rattle.local_clock.specs.Reading.{Happening}
use Rattle.run_counts.specs.Transmissions.{settling_sends}
use Rattle.run_of_file.specs.RunOfFile.{RunEnd}
use Rattle.segment_file.specs.Segment.{SegmentValue, clocks, oscillator}
use Rattle.sync_units.specs.Calls.{Call}
use Rattle.sync_units.specs.KeptEdges.{empty_list}
use Rattle.sync_units.specs.SyncRule.{Armed, armed_by}

-- The unit that arming with this start leaves in the slave at a position: due at the start and the shift of its row, as a word of the
-- clock, with the file's cycle, and with SYNC1 where the row has it.
abbrev pub unit_of : SegmentValue → ℕ → ℕ → Armed
unit_of s p start =
    armed_by (width (kind_at s p)) ((start + (row_there s p).shift_ns) % 2 ^ width (kind_at s p)) s.head.cycle_ns (row_there s p).sync1_ns

-- Drift frame j was the try of the clock's Arm that came back: at its arrival the unit was armed and its list of edges emptied, and
-- what it is now, and raised since, is what these calls made of it, with the copies of the clock's history.
pub record IsArmedSince (s : SegmentValue) (first : RunEnd) (p start : ℕ) (events : List Happening) (v : Slave) : Type 0 where
  pub frame : ℕ
  pub behind : settling_sends s < frame
  pub soon : frame ≤ settling_sends s + 3 * clocks s.rows
  pub calls : List Call
  pub unit : HasRun (width (kind_at s p)) (oscillator (row_there s p)) (arrives_at s first frame p) (Some (unit_of s p start))
      (empty_list s.head.cycles) calls v
  pub copies : HasCopies (width (kind_at s p)) (clock_of (row_there s p)) events (arrives_at s first frame p) calls v
