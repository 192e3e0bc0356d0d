-- How many differences of two latches stand between a clock's measured delay and its true one.
use Rattle.std.specs.Prelude.{ℕ, zero, suc, ◌+◌, Bool, false, not, ◌||◌, nat_eq, if◌then◌else◌, Option, Some, None, List, length, slice_index_or}
use Rattle.std.specs.List.{find}
use Rattle.std.specs.Option.{is_some}
use Rattle.cable_tree.specs.declared.port.Above.{Above}
use Rattle.cable_tree.specs.declared.port.Port.{Port}
use Rattle.cable_tree.specs.declared.port.Port.TheVariants.{P1, P2, P3}
use Rattle.cable_tree.specs.Row.{Row, above}
use Rattle.cable_tree.specs.FrameOrder.{child, order}

-- the nearest slave that measures among so many above, and its port on the way
abbrev pub measuring_step : (ℕ → Bool) → (ℕ → Option Above) → Option Above → Option Above
measuring_step measures higher None = None
measuring_step measures higher (Some a) = if measures a.row then Some a else higher a.row

unfoldable pub measuring_within : List Row → (ℕ → Bool) → ℕ → ℕ → Option Above
measuring_within rows measures zero r = None
measuring_within rows measures (suc steps) r = measuring_step measures (measuring_within rows measures steps) (above rows r)

-- the measuring parent
abbrev pub measuring_parent : List Row → (ℕ → Bool) → ℕ → Option Above
measuring_parent rows measures r = measuring_within rows measures (length rows) r

abbrev pub is_connected : List Row → ℕ → Port → Bool
is_connected rows r p = is_some (child rows r p)

-- in the order 3, 1, 2 a child hangs at an earlier port than this one
abbrev pub has_earlier : List Row → Above → Bool
has_earlier rows a = before a.port
  where
    before : Port → Bool
    before P3 = false
    before P1 = is_connected rows a.row P3
    before P2 = is_connected rows a.row P3 || is_connected rows a.row P1

-- and at a later one
abbrev pub has_later : List Row → Above → Bool
has_later rows a = after a.port
  where
    after : Port → Bool
    after P3 = is_connected rows a.row P1 || is_connected rows a.row P2
    after P1 = is_connected rows a.row P2
    after P2 = false

-- b: so a slave's only port has 0, the first or the last of several has 1, and one between has 2
abbrev pub hop_weight : List Row → Above → ℕ
hop_weight rows a = (if has_earlier rows a then 1 else 0) + (if has_later rows a then 1 else 0)

-- the sum of b over the hops from slave c to slave r, which is c or at most so many hops below it
abbrev pub hops_step : List Row → (ℕ → ℕ) → Option Above → ℕ
hops_step rows higher None = 0
hops_step rows higher (Some a) = hop_weight rows a + higher a.row

unfoldable pub hops_within : List Row → (ℕ → Bool) → ℕ → ℕ → ℕ → ℕ
hops_within rows measures c zero r = 0
hops_within rows measures c (suc hops) r =
    if nat_eq r c then 0 else hops_step rows (hops_within rows measures c hops) (measuring_parent rows measures r)

abbrev pub is_leaf : List Row → ℕ → Bool
is_leaf rows r = not (is_connected rows r P3 || is_connected rows r P1 || is_connected rows r P2)

-- w of slave r below slave c: 0 where they are one
abbrev pub weight_below : List Row → (ℕ → Bool) → ℕ → ℕ → ℕ
weight_below rows measures c r =
    if nat_eq r c then 0 else 1 + hops_within rows measures c (length rows) r + (if is_leaf rows r then 0 else 1)

-- c is slave r or stands above it, by at most so many hops
abbrev pub is_over_step : (ℕ → Bool) → Option Above → Bool
is_over_step higher None = false
is_over_step higher (Some a) = higher a.row

unfoldable pub is_over_within : List Row → (ℕ → Bool) → ℕ → ℕ → ℕ → Bool
is_over_within rows measures c zero r = false
is_over_within rows measures c (suc hops) r =
    nat_eq r c || is_over_step (is_over_within rows measures c hops) (measuring_parent rows measures r)

-- c is slave r or stands above it
abbrev pub is_over : List Row → (ℕ → Bool) → ℕ → ℕ → Bool
is_over rows measures c r = is_over_within rows measures c (length rows) r

-- the deepest slave that is slave r, or measures above it, and is over the reference
abbrev pub meeting_step : ℕ → (ℕ → ℕ) → Option Above → ℕ
meeting_step r higher None = r
meeting_step r higher (Some a) = higher a.row

unfoldable pub meeting_within : List Row → (ℕ → Bool) → ℕ → ℕ → ℕ → ℕ
meeting_within rows measures reference zero r = r
meeting_within rows measures reference (suc hops) r =
    if is_over rows measures r reference then r
    else meeting_step r (meeting_within rows measures reference hops) (measuring_parent rows measures r)

abbrev pub meeting : List Row → (ℕ → Bool) → ℕ → ℕ → ℕ
meeting rows measures reference r = meeting_within rows measures reference (length rows) r

-- the reference: the first clock in frame order
abbrev pub reference : List Row → (ℕ → Bool) → Option ℕ
reference rows timed = find timed (order rows)

-- w: of the ways down from the slave where they part to the clock and to the reference
abbrev pub weight_to : List Row → (ℕ → Bool) → ℕ → Option ℕ → ℕ
weight_to rows measures r None = 0
weight_to rows measures r (Some reference) =
    let c = meeting rows measures reference r in
    weight_below rows measures c r + weight_below rows measures c reference

abbrev pub weight : List Row → (ℕ → Bool) → (ℕ → Bool) → ℕ → ℕ
weight rows measures timed r = weight_to rows measures r (reference rows timed)

-- the flag of a row in a list
abbrev pub flag : List Bool → ℕ → Bool
flag flags r = slice_index_or flags r false
