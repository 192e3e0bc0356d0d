-- The time of the reference that a master knows when arming begins, and the start of the units.
use Rattle.std.specs.Prelude.{◌≡◌, ℕ, ◌+◌, ◌<◌, ◌≤◌, true, false, Some}
use Rattle.copy_law.specs.Drawn.{arrives_at}
use Rattle.copy_law.specs.WholeTimes.{reference_time}
use Rattle.dc_bounds.specs.RunNumbers.{lead_ns, start_ns}
use Rattle.loss_list.specs.declared.loss_row.Phase.TheVariants.{Drift}
use Rattle.lost_step.specs.LostStep.{loses}
use Rattle.master_script.specs.Words.{Words}
use Rattle.run_counts.specs.Transmissions.{settling_sends}
use Rattle.run_of_file.specs.Commissioned.{words_after}
use Rattle.run_of_file.specs.RunOfFile.{RunEnd}
use Rattle.segment_file.specs.Segment.{SegmentValue, clocks}

-- Drift frame j is the last of settling that came back, and so one of its last loss_run + 1. The time that is known is what the
-- reference counted from the epoch on until that frame arrived there, and no word cuts it.
pub record KnowsTime (s : SegmentValue) (first : RunEnd) (r : ℕ) (w : Words) : Type 0 where
  pub frame : ℕ
  pub within : frame ≤ settling_sends s
  pub came : loses s Drift frame ≡ false
  pub last : (j : ℕ) → frame < j → j ≤ settling_sends s → loses s Drift j ≡ true
  pub recent : settling_sends s ≤ frame + s.head.loss_run
  pub time : w.time ≡ Some (reference_time s (words_after s first) r (arrives_at s first frame r))

-- the start that follows from a time, as a whole number
abbrev pub start_from : SegmentValue → ℕ → ℕ
start_from s time = start_ns time (lead_ns (clocks s.rows) s.head.loss_run s.head.frame_ns) s.head.cycle_ns
