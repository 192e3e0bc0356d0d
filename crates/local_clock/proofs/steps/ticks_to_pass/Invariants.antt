use Rattle.std.proofs.Common.{ℕ, ◌+◌, ◌-◌, ◌/◌, ◌<◌, ◌≤◌}
use Rattle.local_clock.specs.StepRule.{elapsed}
use Rattle.local_clock.proofs.AtOnce.{steering_at}
use Rattle.local_clock.proofs.steps.ticks_to_pass.Given as goal

abbrev pub invariant-loop-low : goal.invariant-loop-low
invariant-loop-low l = record {
  order : l.low ≤ l.high;
  within : l.high ≤ l.gap / 9 + 1;
  reached : l.gap ≤ elapsed l.g l.high (steering_at l.left l.count);
  before : (j : ℕ) → j < l.low → elapsed l.g j (steering_at l.left l.count) < l.gap;
}

abbrev pub decreases-loop-low : goal.decreases-loop-low
decreases-loop-low l = l.high - l.low
