-- Which of the slaves that measure can be measured from the one above them.
use Rattle.std.specs.Prelude.{ℕ, zero, suc, ◌+◌, Bool, false, not, ◌&&◌, ◌||◌, nat_le, if◌then◌else◌, Option, Some, None, List, length, drop, filter}
use Rattle.std.specs.List.{find}
use Rattle.cable_tree.specs.declared.port.Above.{Above}
use Rattle.cable_tree.specs.declared.port.Port.TheVariants.{P1, P2, P3}
use Rattle.cable_tree.specs.Row.{Row, above}
use Rattle.dc_bounds.specs.Weight.{is_connected}

-- how many slaves hang at the ports of a slave
abbrev pub children : List Row → ℕ → ℕ
children rows r =
    (if is_connected rows r P3 then 1 else 0) + (if is_connected rows r P1 then 1 else 0) + (if is_connected rows r P2 then 1 else 0)

-- more than one hangs there
abbrev pub branches : List Row → ℕ → Bool
branches rows r = nat_le 2 (children rows r)

-- among so many slaves above, one measures, and none that comes before it branches
abbrev pub is_measured_step : (ℕ → Bool) → (ℕ → Bool) → (ℕ → Bool) → Option Above → Bool
is_measured_step measures branches higher None = false
is_measured_step measures branches higher (Some a) = measures a.row || (not (branches a.row) && higher a.row)

unfoldable pub is_measured_within : List Row → (ℕ → Bool) → ℕ → ℕ → Bool
is_measured_within rows measures zero r = false
is_measured_within rows measures (suc steps) r =
    is_measured_step measures (branches rows) (is_measured_within rows measures steps) (above rows r)

-- the slave has a measuring parent, and no slave between the two has more than one child
abbrev pub is_measurable : List Row → (ℕ → Bool) → ℕ → Bool
is_measurable rows measures r = is_measured_within rows measures (length rows) r

-- of the slaves that measure, but for the first in this order, the first one that cannot be measured
abbrev pub unmeasurable : List Row → (ℕ → Bool) → List ℕ → Option ℕ
unmeasurable rows measures order = find (λ r. not (is_measurable rows measures r)) (drop 1 (filter measures order))
