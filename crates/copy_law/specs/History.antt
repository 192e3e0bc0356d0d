-- What the clock of the slave at a position goes through in a run, and what its local copy of the system time is at any true time.
use Rattle.std.specs.Prelude.{ℕ, ◌+◌, ◌%◌, ◌^◌, List, [], ◌∷◌, ◌++◌, Option, Some, None, slice_get}
use Rattle.std.specs.Option.{option_map_or}
use Rattle.copy_law.specs.DriftFrames.{brought}
use Rattle.delay_law.specs.Resting.{row_there}
use Rattle.ecat_link.specs.Exchanges.{Exchange}
use Rattle.frame_pass.specs.SegmentState.{SegmentState, segment_step}
use Rattle.frame_pass.specs.SlaveState.{Slave, offset, width}
use Rattle.honest_slaves.specs.FileSlaves.{kind_at}
use Rattle.local_clock.specs.Reading.{Clock, Happening, reading_at, started}
use Rattle.run_of_file.specs.RunOfFile.{RunEnd}
use Rattle.segment_file.specs.Segment.{RowValue, SegmentValue, oscillator}
use Rattle.segment_start.specs.Start.{first_rate, started_segment}

-- what an exchange brings the clock there
abbrev pub brought_to : SegmentState → Exchange → ℕ → Option Slave → List Happening
brought_to t e p None = []
brought_to t e p (Some v) = brought t e p v

-- what exchanges bring it, one after another, from this state of the segment on
unfoldable pub history_from : SegmentState → List Exchange → ℕ → List Happening
history_from t [] p = []
history_from t (e ∷ es) p = brought_to t e p (slice_get t.slaves p) ++ history_from (segment_step t e.wait_ns e.sent).0 es p

-- the clock of a row before the first frame
abbrev pub clock_of : RowValue → Clock
clock_of row = started (oscillator row) row.start first_rate

-- the offset that the slave at a position holds
abbrev pub offset_of : SegmentState → ℕ → ℕ
offset_of t p = option_map_or (λ v. offset v.registers) (slice_get t.slaves p) 0

-- The local copy at true time t, as a word of the clock's width, whether or not the told state was advanced to t: by the history of
-- the clock in the whole run, and the offset that it holds at the end.
abbrev pub copy_of_run : SegmentValue → RunEnd → ℕ → ℕ → ℕ
copy_of_run s run p t =
    let w = width (kind_at s p) in
    (reading_at w (clock_of (row_there s p)) (history_from (started_segment s) run.exchanges p) t + offset_of run.state p) % 2 ^ w
