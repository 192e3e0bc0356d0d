use Rattle.std.proofs.Common.{◌≡◌, ℕ, ◌+◌, ◌-◌, ◌<◌, ◌≤◌, true}
use Rattle.lost_step.specs.LostStep.{loses}
use Rattle.lost_step.proofs.tries.behind_tries.Given as goal

abbrev pub invariant-loop-number : goal.invariant-loop-number
invariant-loop-number l = (l.first ≤ l.number) × ((k : ℕ) → k < l.number - l.first → loses l.segment l.phase (l.first + k) ≡ true)
