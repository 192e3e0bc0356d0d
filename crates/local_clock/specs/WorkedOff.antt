-- How far a correction has come.
use Rattle.std.specs.Prelude.{◌≡◌, ℕ, ◌<◌, ℤ, pos, ◌≤ℤ◌}
use Rattle.local_clock.specs.StepRule.{Steering}

-- z has the sign of d, or is 0
pub record IsTowardZero (d z : ℤ) : Type 0 where
  pub above : pos 0 ≤ℤ d → pos 0 ≤ℤ z
  pub below : d ≤ℤ pos 0 → z ≤ℤ pos 0

-- what every clock keeps: fewer ticks than a correction takes, and none while nothing is left
pub record IsSteady (g : ℕ) (s : Steering) : Type 0 where
  pub below : s.count < g
  pub rests : s.left ≡ pos 0 → s.count ≡ 0
