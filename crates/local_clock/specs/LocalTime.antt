-- The local time as a whole number of ns, which no word cuts.
use Rattle.std.specs.Prelude.{ℕ, ◌+◌, ◌%◌, ◌^◌, List, [], ◌∷◌, nat_le, if◌then◌else◌}
use Rattle.local_clock.specs.StepRule.{steered, elapsed}
use Rattle.local_clock.specs.Reading.{Clock, Happening, after_event, steering_of, ticks_to}

-- the clock at t without wrap, where nothing is received in between
abbrev pub whole_advanced : ℕ → Clock → Clock
whole_advanced t c =
    let s = steered c.g (ticks_to c t) (steering_of c) in
    record c { instant = t; reading = c.reading + elapsed c.g (ticks_to c t) (steering_of c); left = s.left; count = s.count }

-- the same by its history
abbrev pub whole_clock_at : Clock → List Happening → ℕ → Clock
whole_clock_at c [] t = whole_advanced t c
whole_clock_at c (h ∷ rest) t =
    if nat_le h.instant t then whole_clock_at (after_event h.event (whole_advanced h.instant c)) rest t else whole_advanced t c

abbrev pub local_time : Clock → List Happening → ℕ → ℕ
local_time c events t = (whole_clock_at c events t).reading

-- what a clock of w bits shows of it
abbrev pub cut_to : ℕ → Clock → Clock
cut_to w c = record c { reading = c.reading % 2 ^ w }
