-- What the latched times of a tree must meet for the delays to be near, and when they do.
use Rattle.std.specs.Prelude.{◌≡◌, ℕ, ◌+◌, ◌-◌, ◌*◌, ◌%◌, ◌^◌, ◌<◌, Bool, true, Some, List, length}
use Rattle.cable_tree.specs.declared.port.Above.{Above}
use Rattle.cable_tree.specs.declared.port.Port.{Port}
use Rattle.cable_tree.specs.Row.{Row}
use Rattle.cable_tree.specs.FrameOrder.{child}
use Rattle.cable_tree.specs.Hops.{lap}
use Rattle.osc_clock.specs.Ticks.{Oscillator, IsRunning, ticks}
use Rattle.dc_bounds.specs.TickFacts.{IsNear, IsWithin}
use Rattle.dc_bounds.specs.Weight.{measuring_parent}
use Rattle.dc_bounds.specs.Measurable.{is_measurable}
use Rattle.dc_delay.specs.Latched.{latched}

-- at the connected ports of a slave L is within g fs of the lap, and so is each difference of two
pub record AreLatched (rows : List Row) (g r : ℕ) (laps : ℕ → Port → ℕ) : Type 0 where
  pub each : (p : Port) (j : ℕ) → child rows r p ≡ Some j → IsNear (1000000 * laps r p) (lap rows r p) g
  pub pairs : (p q : Port) (j k : ℕ) → child rows r p ≡ Some j → child rows r q ≡ Some k
      → IsNear (1000000 * laps r p + lap rows r q) (1000000 * laps r q + lap rows r p) g

-- at every measuring slave
abbrev pub AreAllLatched : List Row → (ℕ → Bool) → ℕ → (ℕ → Port → ℕ) → Type 0
AreAllLatched rows measures g laps = (r : ℕ) → r < length rows → measures r ≡ true → AreLatched rows g r laps

-- L is that of two readings of a clock, which stood at x when the frame arrived at time t, and does not correct meanwhile
abbrev pub AreReadings : List Row → Oscillator → ℕ → ℕ → ℕ → (ℕ → Port → ℕ) → Type 0
AreReadings rows o x t r laps = (p : Port) (k : ℕ) → child rows r p ≡ Some k
    → laps r p ≡ latched ((x + 10 * (ticks o (t + lap rows r p) - ticks o t)) % 2 ^ 32) (x % 2 ^ 32)

-- it is so by some clock within a ppm
pub record AreOfClock (rows : List Row) (ppm r : ℕ) (laps : ℕ → Port → ℕ) : Type 0 where
  pub osc : Oscillator
  pub stood : ℕ
  pub time : ℕ
  pub runs : IsRunning osc
  pub steady : IsWithin ppm osc
  pub readings : AreReadings rows osc stood time r laps

-- each measuring slave that has a measuring parent can be measured from it
abbrev pub AreMeasurable : List Row → (ℕ → Bool) → Type 0
AreMeasurable rows measures =
    (r : ℕ) (a : Above) → r < length rows → measures r ≡ true → measuring_parent rows measures r ≡ Some a
    → is_measurable rows measures r ≡ true
