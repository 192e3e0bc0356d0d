use Rattle.std.proofs.Common.{◌≡◌, ◌+◌, ◌*◌, ◌≤◌, length}
use Rattle.lost_step.specs.LostStep.{asked, loses}
use Rattle.lost_step.specs.Rounds.{phase_of, step_of, steps_of, takes_part}
use Rattle.lost_step.proofs.Turns.{steps_from}
use Rattle.lost_step.proofs.tries.ask_each.Given as goal

abbrev pub invariant-loop-position : goal.invariant-loop-position
invariant-loop-position l =
    (asked (loses l.segment (phase_of l.round)) l.first (steps_of l.segment l.round)
    ≡ asked (loses l.segment (phase_of l.round)) l.number (steps_from (takes_part l.segment l.round) (step_of l.round) (length l.segment.rows) l.position))
    × (l.number ≤ l.first + 3 * l.position)
