-- Clocks that receive no difference.
use Rattle.std.specs.Prelude.{⊤, List}
use Rattle.std.specs.List.{AllByRecursion}
use Rattle.local_clock.specs.Reading.{Happening, Event, received, reset}

abbrev pub IsReset : Event → Type 0
IsReset (received d) = ⊥
IsReset (reset g) = ⊤

-- what happens to the clock are resets alone
abbrev pub AreResets : List Happening → Type 0
AreResets events = AllByRecursion (λ h. IsReset h.event) events
