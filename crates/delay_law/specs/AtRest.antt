-- The receive times of a slave whose clock has nothing left to correct (ESC data sheet, 0x0900).
use Rattle.std.specs.Prelude.{◌≡◌, ℕ, ◌+◌, ◌%◌, ◌^◌, ◌≤◌, Some, List, pos}
use Rattle.cable_tree.specs.declared.port.Port.{Port}
use Rattle.cable_tree.specs.Row.{Row}
use Rattle.cable_tree.specs.FrameOrder.{child}
use Rattle.cable_tree.specs.Hops.{lap}
use Rattle.osc_clock.specs.Ticks.{IsRunning}
use Rattle.dc_bounds.specs.TickFacts.{IsWithin}
use Rattle.dc_delay.specs.Latched.{latched}
use Rattle.local_clock.specs.Reading.{Clock, advanced}

-- L at each connected port is that of the low words of a clock of w bits, which stands so when the frame arrives,
-- and of the same clock when the frame comes back into the port
abbrev pub AreLatchedBy : ℕ → Clock → List Row → ℕ → (ℕ → Port → ℕ) → Type 0
AreLatchedBy w c rows r laps = (p : Port) (k : ℕ) → child rows r p ≡ Some k
    → laps r p ≡ latched ((advanced w (c.instant + lap rows r p) c).reading % 2 ^ 32) (c.reading % 2 ^ 32)

-- it is so by some clock within a ppm that has nothing left to correct
pub record AreLatchedAtRest (rows : List Row) (ppm r : ℕ) (laps : ℕ → Port → ℕ) : Type 0 where
  pub clock : Clock
  pub width : ℕ
  pub wide : 32 ≤ width
  pub rests : clock.left ≡ pos 0
  pub runs : IsRunning clock.osc
  pub steady : IsWithin ppm clock.osc
  pub words : AreLatchedBy width clock rows r laps
