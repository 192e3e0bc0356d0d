-- Why there are no delays. That none is timed goes first.
use Rattle.std.specs.Prelude.{◌≡◌, ℕ, Bool, Option, Some, None, IsSome, List, length}
use Rattle.std.specs.List.{find}
use Rattle.dc_topology.specs.Listed.{Place}
use Rattle.dc_bounds.specs.Measurable.{unmeasurable}
use Rattle.dc_delay.specs.ShapeRows.{hanging, positions}
use Rattle.dc_delay.specs.declared.error.DelayError.{DelayError}
use Rattle.dc_delay.specs.declared.error.DelayError.TheVariants.{NoReference, Unmeasurable}

-- the reference of a shape: the first timed position
abbrev pub first_timed : List Place → (ℕ → Bool) → Option ℕ
first_timed places timed = find timed (positions (length places))

-- its first slave that cannot be measured
abbrev pub first_unmeasurable : List Place → (ℕ → Bool) → Option ℕ
first_unmeasurable places measures = unmeasurable (hanging places) measures (positions (length places))

abbrev pub IsRefused : List Place → (ℕ → Bool) → (ℕ → Bool) → DelayError → Type 0
IsRefused places measures timed NoReference = first_timed places timed ≡ None
IsRefused places measures timed (Unmeasurable r) = IsSome (first_timed places timed) × (first_unmeasurable places measures ≡ Some r)
