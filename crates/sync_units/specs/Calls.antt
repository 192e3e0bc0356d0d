-- Calls one after the other on one unit and one list, between which the clock's steering may change.
use Rattle.std.specs.Prelude.{◌≡◌, ℕ, ◌-◌, ◌≤◌, ⊤, List, [], ◌∷◌, Option, nat_le, if◌then◌else◌}
use Rattle.osc_clock.specs.Ticks.{Oscillator, ticks}
use Rattle.local_clock.specs.Reading.{Clock, ticks_to}
use Rattle.sync_units.specs.ClockCopy.{copy_after}
use Rattle.sync_units.specs.SyncRule.{Armed}
use Rattle.sync_units.specs.Interval.{unit_at, edges_to}
use Rattle.sync_units.specs.KeptEdges.{Kept, put_all}

-- the clock and the offset that a call is given, and the time until which it raises edges
pub record Call : Type 0 where
  pub clock : Clock
  pub offset : ℕ
  pub until : ℕ

-- from t on, each clock stands where the call before it ended; all have this oscillator
abbrev pub AreInTurn : Oscillator → ℕ → List Call → Type 0
AreInTurn o t [] = ⊤
AreInTurn o t (c ∷ cs) = (c.clock.osc ≡ o) × (c.clock.instant ≡ t) × (t ≤ c.until) × AreInTurn o c.until cs

-- when the last of them ends
abbrev pub end_of : ℕ → List Call → ℕ
end_of t [] = t
end_of t (c ∷ cs) = end_of c.until cs

-- how many ticks they have together
abbrev pub ticks_of_calls : Oscillator → ℕ → List Call → ℕ
ticks_of_calls o t cs = ticks o (end_of t cs) - ticks o t

-- the local copy at the k-th tick of them all
abbrev pub copy_in : ℕ → List Call → ℕ → ℕ
copy_in w [] k = 0
copy_in w (c ∷ cs) k =
    if nat_le k (ticks_to c.clock c.until) then copy_after w c.clock c.offset k
    else copy_in w cs (k - ticks_to c.clock c.until)

-- what the calls leave
abbrev pub unit_after_calls : ℕ → List Call → Option Armed → Option Armed
unit_after_calls w [] unit = unit
unit_after_calls w (c ∷ cs) unit = unit_after_calls w cs (unit_at w c.clock c.offset c.until unit)

abbrev pub list_after_calls : ℕ → List Call → Option Armed → Kept → Kept
list_after_calls w [] unit l = l
list_after_calls w (c ∷ cs) unit l =
    list_after_calls w cs (unit_at w c.clock c.offset c.until unit) (put_all (edges_to w c.clock c.offset c.until unit) l)
