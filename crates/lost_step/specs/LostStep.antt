-- The step whose three tries are all lost in a run, by the list of losses alone: no frame and no clock is needed to tell it.
use Rattle.std.specs.Prelude.{ℕ, ◌+◌, nat_lt, Bool, true, if◌then◌else◌, List, [], ◌∷◌, ◌++◌, length, map, filter, Option, Some, None, Result, Ok, Err}
use Rattle.std.specs.Option.{is_some, option_or}
use Rattle.std.specs.Result.{result_err}
use Rattle.dc_delay.specs.ShapeRows.{positions}
use Rattle.master_script.specs.declared.step.Step.{Step}
use Rattle.master_script.specs.declared.step.Step.TheVariants.{Count, Identify, Rate, Latch, Times, Set, Arm}
use Rattle.loss_list.specs.Losses.{loss_at}
use Rattle.loss_list.specs.declared.loss_row.Phase.{Phase}
use Rattle.loss_list.specs.declared.loss_row.Phase.TheVariants.{Commission, Drift}
use Rattle.segment_file.specs.Faults.{lock_in}
use Rattle.segment_file.specs.Segment.{SegmentValue, counts_of, measures_at, clock_at, row_at}

-- the frame of this number in this phase is listed as lost
abbrev pub loses : SegmentValue → Phase → ℕ → Bool
loses s phase number = is_some (loss_at s.losses phase number)

-- a frame comes to a position: it is not lost, or it is lost after that position
abbrev pub comes_to : Option ℕ → ℕ → Bool
comes_to None p = true
comes_to (Some after) p = nat_lt p after

-- Of an exchange whose first try has this number: the number of the next exchange's first try, or None where the three tries are lost.
unfoldable pub behind_tries : (ℕ → Bool) → ℕ → Option ℕ
behind_tries lost a =
    if lost a then (if lost (a + 1) then (if lost (a + 2) then None else Some (a + 3)) else Some (a + 2)) else Some (a + 1)

-- the exchanges behind one whose tries end so
abbrev pub asked_on : {A : Type 0} → Option ℕ → A → (ℕ → Result ℕ A) → Result ℕ A
asked_on None step next = Err step
asked_on (Some b) step next = next b

-- Exchanges of these steps, of whatever script, one after another, of which the first has its first try at this number: the number
-- after them, or the first step whose three tries are lost.
unfoldable pub asked : {A : Type 0} → (ℕ → Bool) → ℕ → List A → Result ℕ A
asked lost a [] = Ok a
asked lost a (step ∷ rest) = asked_on (behind_tries lost a) step (λ b. asked lost b rest)

-- the positions of the slaves that measure, and of the clocks, in frame order
unfoldable pub measuring_positions : SegmentValue → List ℕ
measuring_positions s = filter (λ p. measures_at s.rows (row_at s p)) (positions (length s.rows))

unfoldable pub clock_positions : SegmentValue → List ℕ
clock_positions s = filter (λ p. clock_at s.rows (row_at s p)) (positions (length s.rows))

-- the steps of commissioning, and those of arming
abbrev pub commission_steps : SegmentValue → List Step
commission_steps s =
    Count ∷ (map Identify (positions (length s.rows)) ++ Rate ∷ Latch ∷ (map Times (measuring_positions s) ++ map Set (clock_positions s)))

abbrev pub arm_steps : SegmentValue → List Step
arm_steps s = map Arm (clock_positions s)

-- the first drift number of arming: behind the K + m + 1 of settling
abbrev pub first_arming : SegmentValue → ℕ
first_arming s = lock_in s.head (counts_of s.rows) + s.head.loss_run + 2

-- the step that loses its three tries in commissioning, and in arming
abbrev pub lost_in_commissioning : SegmentValue → Option Step
lost_in_commissioning s = result_err (asked (loses s Commission) 1 (commission_steps s))

abbrev pub lost_in_arming : SegmentValue → Option Step
lost_in_arming s = result_err (asked (loses s Drift) (first_arming s) (arm_steps s))

-- arming is looked at where no step of commissioning is lost, and only where it is asked for
unfoldable pub lost_step_of : SegmentValue → Bool → Option Step
lost_step_of s with_arming = option_or (lost_in_commissioning s) (if with_arming then lost_in_arming s else None)
