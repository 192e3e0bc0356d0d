-- What a clock has become since it received a difference.
use Rattle.std.specs.Prelude.{◌≡◌, ℕ, ◌+◌, ◌-◌, ◌*◌, ◌/◌, min, unsigned_abs, ℤ, pos, ◌+ℤ◌, List, [], ◌∷◌, ◌++◌}
use Rattle.osc_clock.specs.Ticks.{ticks}
use Rattle.local_clock.specs.Reading.{Clock, Happening, received}
use Rattle.local_clock.specs.LocalTime.{local_time, whole_clock_at}
use Rattle.local_clock.specs.WorkedOff.{IsTowardZero}

-- a difference that is received at an instant
abbrev pub receipt : ℕ → ℤ → Happening
receipt at d = record { instant = at; event = received d }

-- A clock with these events then receives d at an instant, and nothing from there to t. The local time at t and d are together the local
-- time at that instant, 10 ns for each tick since, and what is left of d. What is left has the sign of d or is 0; as much of d is worked
-- off as these ticks allow, and no more.
pub record IsSince (c : Clock) (events : List Happening) (at : ℕ) (d : ℤ) (t : ℕ) : Type 0 where
  pub left : ℤ
  pub time : pos (local_time c (events ++ receipt at d ∷ []) t) +ℤ d
      ≡ pos (local_time c events at + 10 * (ticks c.osc t - ticks c.osc at)) +ℤ left
  pub size : unsigned_abs left + min (unsigned_abs d) ((ticks c.osc t - ticks c.osc at) / (whole_clock_at c events at).g) ≡ unsigned_abs d
  pub sign : IsTowardZero d left
