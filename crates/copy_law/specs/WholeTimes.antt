-- The system time and the local copy of a clock in a run as whole numbers of ns, which no word cuts.
use Rattle.std.specs.Prelude.{ℕ, ◌+◌, ◌-◌, List}
use Rattle.copy_law.specs.History.{clock_of}
use Rattle.copy_law.specs.SinceLatch.{counted_ns, latch_arrival}
use Rattle.delay_law.specs.Resting.{row_there}
use Rattle.local_clock.specs.LocalTime.{local_time}
use Rattle.local_clock.specs.Reading.{Happening}
use Rattle.master_script.specs.Words.{Words, delay_at}
use Rattle.run_of_file.specs.MasterOfFile.{master_of}
use Rattle.segment_file.specs.Segment.{SegmentValue}

-- the system time: the epoch, and what the clock of this history has counted since the Latch that came back arrived at it
abbrev pub whole_time : SegmentValue → Words → ℕ → List Happening → ℕ → ℕ
whole_time s w p events t =
    s.head.epoch_ns + (local_time (clock_of (row_there s p)) events t - local_time (clock_of (row_there s p)) events (latch_arrival s w p))

-- the local copy: the same with the measured delay
abbrev pub whole_copy : SegmentValue → Words → ℕ → List Happening → ℕ → ℕ
whole_copy s w p events t = whole_time s w p events t + delay_at (master_of s) w p

-- of the reference, which receives nothing and has no delay, both are the epoch and 10 ns a tick
abbrev pub reference_time : SegmentValue → Words → ℕ → ℕ → ℕ
reference_time s w r t = s.head.epoch_ns + counted_ns s w r t
