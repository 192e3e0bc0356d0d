-- What the bounds say of the ticks in an interval.
use Rattle.std.specs.Prelude.{ℕ, ◌+◌, ◌-◌, ◌*◌, ◌/◌, ◌≤◌}
use Rattle.osc_clock.specs.Ticks.{Oscillator}
use Rattle.osc_clock.specs.IntervalTicks.{HasGaps}
use Rattle.dc_bounds.specs.TickBounds.{tick_fs, tolerance, tick_gap, count_gap, least_ticks}

-- |a - b| ≤ r
pub record IsNear (a b r : ℕ) : Type 0 where
  pub above : a ≤ b + r
  pub below : b ≤ a + r

-- each gap between two ticks is within ppm of 10 ns, and the first tick comes within the longest gap
abbrev pub IsWithin : ℕ → Oscillator → Type 0
IsWithin ppm o = HasGaps (tick_fs - tolerance ppm) (tick_fs + tolerance ppm) o

-- k ticks fit into a length, in fs
pub record AreTicksOf (ppm length k : ℕ) : Type 0 where
  pub gap : IsNear (tick_fs * k) length (tick_gap ppm length)
  pub count : IsNear (tick_fs * k) length (count_gap ppm k)
  pub least : least_ticks ppm length ≤ k
  pub most : k ≤ length / (tick_fs - tolerance ppm) + 1
