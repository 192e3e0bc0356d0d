-- A clock at an instant, and what time and its master do to it.
use Rattle.std.specs.Prelude.{ℕ, ◌+◌, ◌-◌, ◌%◌, ◌^◌, ◌≤◌, ⊤, ℤ, pos, List, [], ◌∷◌, nat_le, if◌then◌else◌}
use Rattle.std.specs.List.{All}
use Rattle.osc_clock.specs.Ticks.{Oscillator, ticks}
use Rattle.local_clock.specs.StepRule.{Steering, steered, elapsed}

-- the true time (fs) at which it stands, its local time (ns), what is left to correct, the ticks since the last
-- correction, and how many ticks there are to a correction
pub record Clock : Type 0 where
  pub osc : Oscillator
  pub instant : ℕ
  pub reading : ℕ
  pub left : ℤ
  pub count : ℕ
  pub g : ℕ

-- a clock at true time 0
abbrev pub started : Oscillator → ℕ → ℕ → Clock
started osc start g = record { osc = osc; instant = 0; reading = start; left = pos 0; count = 0; g = g }

abbrev pub steering_of : Clock → Steering
steering_of c = record { left = c.left; count = c.count }

-- the ticks after its instant and at or before t
abbrev pub ticks_to : Clock → ℕ → ℕ
ticks_to c t = ticks c.osc t - ticks c.osc c.instant

-- its local time, of w bits, after k more ticks
abbrev pub reading_after : ℕ → Clock → ℕ → ℕ
reading_after w c k = (c.reading + elapsed c.g k (steering_of c)) % 2 ^ w

-- the clock at t, where nothing is received in between
abbrev pub advanced : ℕ → ℕ → Clock → Clock
advanced w t c =
    let s = steered c.g (ticks_to c t) (steering_of c) in
    record c { instant = t; reading = reading_after w c (ticks_to c t); left = s.left; count = s.count }

-- a received difference begins a correction, and drops what was left of the one before
abbrev pub corrected : ℤ → Clock → Clock
corrected d c = record c { left = d; count = 0 }

-- a reset drops it too, and sets how many ticks there are to a correction
abbrev pub reset_to : ℕ → Clock → Clock
reset_to g c = record c { left = pos 0; count = 0; g = g }

pub data Event : Type 0 where
  received : ℤ → Event
  reset : ℕ → Event

abbrev pub after_event : Event → Clock → Clock
after_event (received d) c = corrected d c
after_event (reset g) c = reset_to g c

-- an event and its true time
pub record Happening : Type 0 where
  pub instant : ℕ
  pub event : Event

-- what an event can be: a reset sets at least one tick to a correction
abbrev pub IsPossible : Event → Type 0
IsPossible (received d) = ⊤
IsPossible (reset g) = 1 ≤ g

-- the clock at t by its history, a list of events in order of time: it takes those at or before t, each after
-- the ticks at or before its instant
abbrev pub clock_at : ℕ → Clock → List Happening → ℕ → Clock
clock_at w c [] t = advanced w t c
clock_at w c (h ∷ rest) t =
    if nat_le h.instant t then clock_at w (after_event h.event (advanced w h.instant c)) rest t else advanced w t c

-- the local time at t of a clock with this history
abbrev pub reading_at : ℕ → Clock → List Happening → ℕ → ℕ
reading_at w c events t = (clock_at w c events t).reading

-- no event is after s
abbrev pub AreUntil : ℕ → List Happening → Type 0
AreUntil s events = All (λ h. h.instant ≤ s) events

-- the events are in order of time, and none is before s
abbrev pub AreInOrder : ℕ → List Happening → Type 0
AreInOrder s [] = ⊤
AreInOrder s (h ∷ rest) = (s ≤ h.instant) × AreInOrder h.instant rest
