-- How many ticks an interval can have, where the gaps lie between two bounds.
use Rattle.std.specs.Prelude.{ℕ, ◌<◌, ◌≤◌}
use Rattle.osc_clock.specs.Ticks.{Oscillator, gap}

-- each gap between two ticks is from low to high, and the first tick comes within high
pub record HasGaps (low high : ℕ) (o : Oscillator) : Type 0 where
  pub least : (k : ℕ) → 0 < k → low ≤ gap o k
  pub most : (k : ℕ) → gap o k ≤ high
