-- How many frames a run sends.
use Rattle.std.specs.Prelude.{◌≡◌, ℕ, ◌+◌, length}
use Rattle.ecat_link.specs.Exchanges.{lost_among}
use Rattle.master_script.specs.Kept.{Kept}
use Rattle.run_counts.specs.Phases.{Phases}
use Rattle.run_of_file.specs.RunOfFile.{RunEnd, frames_given}
use Rattle.segment_file.specs.Faults.{lock_in}
use Rattle.segment_file.specs.Segment.{SegmentValue, clocks, counts_of, measuring}

-- n + N_m + N_c + 3 in commissioning, where no frame is lost
abbrev pub commissioning_sends : SegmentValue → ℕ
commissioning_sends s = length s.rows + measuring s.rows + clocks s.rows + 3

-- K + m + 1 in settling
abbrev pub settling_sends : SegmentValue → ℕ
settling_sends s = lock_in s.head (counts_of s.rows) + s.head.loss_run + 1

-- in the whole run, where no frame of commissioning and arming is lost: with N_c of arming, and those of the run phase
abbrev pub whole_sends : SegmentValue → ℕ
whole_sends s = commissioning_sends s + settling_sends s + clocks s.rows + frames_given s

-- So many frames were sent in each phase. A frame of commissioning or arming that is lost is sent once more; one of settling or of the
-- run phase is not.
pub record AreCounted (s : SegmentValue) (run : RunEnd) (phases : Phases s run) : Type 0 where
  pub commissioning : length phases.commissioning ≡ commissioning_sends s + lost_among phases.commissioning
  pub settling : length phases.settling ≡ settling_sends s
  pub arming : length phases.arming ≡ clocks s.rows + lost_among phases.arming
  pub running : length phases.running ≡ frames_given s
  pub whole : length run.exchanges ≡ whole_sends s + lost_among phases.commissioning + lost_among phases.arming

-- A master has counted all sendings of the run, and its losses: a frame of settling or of the run phase that does not come back counts as
-- lost, and is not sent once more.
pub record HasCounted (s : SegmentValue) (m : Kept) (run : RunEnd) (phases : Phases s run) : Type 0 where
  pub sent : m.sent ≡ whole_sends s + lost_among phases.commissioning + lost_among phases.arming
  pub lost : m.lost ≡ lost_among phases.commissioning + lost_among phases.settling + lost_among phases.arming + lost_among phases.running
