-- The steps that are asked of one slave after another.
use Rattle.std.specs.Prelude.{ℕ, Bool, true, List, length, map, filter}
use Rattle.dc_delay.specs.ShapeRows.{positions}
use Rattle.master_script.specs.declared.step.Step.{Step}
use Rattle.master_script.specs.declared.step.Step.TheVariants as step
use Rattle.loss_list.specs.declared.loss_row.Phase.{Phase}
use Rattle.loss_list.specs.declared.loss_row.Phase.TheVariants.{Commission, Drift}
use Rattle.segment_file.specs.Segment.{SegmentValue, measures_at, clock_at, row_at}
use Rattle.lost_step.specs.declared.tries.Round.{Round}
use Rattle.lost_step.specs.declared.tries.Round.TheVariants.{Identify, Times, Set, Arm}

-- the frames of which phase carry it
abbrev pub phase_of : Round → Phase
phase_of Identify = Commission
phase_of Times = Commission
phase_of Set = Commission
phase_of Arm = Drift

-- the step of the slave at a position
abbrev pub step_of : Round → ℕ → Step
step_of Identify p = step.Identify p
step_of Times p = step.Times p
step_of Set p = step.Set p
step_of Arm p = step.Arm p

-- that slave takes part
abbrev pub takes_part : SegmentValue → Round → ℕ → Bool
takes_part s Identify p = true
takes_part s Times p = measures_at s.rows (row_at s p)
takes_part s Set p = clock_at s.rows (row_at s p)
takes_part s Arm p = clock_at s.rows (row_at s p)

-- the steps of the slaves that take part, in frame order
abbrev pub steps_of : SegmentValue → Round → List Step
steps_of s round = map (step_of round) (filter (takes_part s round) (positions (length s.rows)))
