-- The delays that a master computes from latched times, in ns, by this project's rule: whole sums without wrap, halved once at the end.
-- Every definition takes L of a slave and port as `laps`.
use Rattle.std.specs.Prelude.{ℕ, zero, suc, ◌+◌, ◌-◌, ◌/◌, Bool, if◌then◌else◌, Option, Some, None, List, length, map}
use Rattle.std.specs.List.{find}
use Rattle.cable_tree.specs.declared.port.Above.{Above}
use Rattle.cable_tree.specs.declared.port.Port.{Port}
use Rattle.cable_tree.specs.Row.{Row, above}
use Rattle.cable_tree.specs.Hops.{previous, last_port}
use Rattle.dc_bounds.specs.Weight.{measuring_parent}
use Rattle.dc_delay.specs.ShapeRows.{tp_ns, tf_ns}

-- L of the connected port before, 0 where there is none
abbrev pub latched_before : (ℕ → Port → ℕ) → ℕ → Option Port → ℕ
latched_before laps r None = 0
latched_before laps r (Some q) = laps r q

-- x: tP to the first connected port, tF to every other one
abbrev pub forwarding_ns : List Row → ℕ → Option Port → ℕ
forwarding_ns rows r None = tp_ns rows r
forwarding_ns rows r (Some q) = tf_ns rows r

-- S: tP of a leaf, else L of the last connected port and tF
abbrev pub turn_by : List Row → (ℕ → Port → ℕ) → ℕ → Option Port → ℕ
turn_by rows laps r None = tp_ns rows r
turn_by rows laps r (Some last) = laps r last + tf_ns rows r

abbrev pub turn : List Row → (ℕ → Port → ℕ) → ℕ → ℕ
turn rows laps r = turn_by rows laps r (last_port rows r)

-- the sum of a number over the clockless slaves between a slave and its measuring parent, among so many above
abbrev pub passed_step : (ℕ → Bool) → (ℕ → ℕ) → (ℕ → ℕ) → Option Above → ℕ
passed_step measures number higher None = 0
passed_step measures number higher (Some a) = if measures a.row then 0 else number a.row + higher a.row

unfoldable pub passed_within : List Row → (ℕ → Bool) → (ℕ → ℕ) → ℕ → ℕ → ℕ
passed_within rows measures number zero r = 0
passed_within rows measures number (suc steps) r = passed_step measures number (passed_within rows measures number steps) (above rows r)

abbrev pub passed : List Row → (ℕ → Bool) → (ℕ → ℕ) → ℕ → ℕ
passed rows measures number r = passed_within rows measures number (length rows) r

-- the doubled hop from port p of A, the measuring parent, to B, and what is taken off it:
-- L_q + L_p + x + the sum of tP, less the sum of tF and S(B)
abbrev pub hop_ahead : List Row → (ℕ → Bool) → (ℕ → Port → ℕ) → Above → ℕ → ℕ
hop_ahead rows measures laps a r =
    let before = previous rows a.row a.port in
    latched_before laps a.row before + laps a.row a.port + forwarding_ns rows a.row before + passed rows measures (tp_ns rows) r

abbrev pub hop_back : List Row → (ℕ → Bool) → (ℕ → Port → ℕ) → Above → ℕ → ℕ
hop_back rows measures laps a r = passed rows measures (tf_ns rows) r + turn rows laps r

-- the sum of a number of each hop, from the first measuring slave down to a slave, over at most so many hops; 0 at the first one
abbrev pub summed_step : (Above → ℕ → ℕ) → ℕ → (ℕ → ℕ) → Option Above → ℕ
summed_step number r higher None = 0
summed_step number r higher (Some a) = higher a.row + number a r

unfoldable pub summed_within : List Row → (ℕ → Bool) → (Above → ℕ → ℕ) → ℕ → ℕ → ℕ
summed_within rows measures number zero r = 0
summed_within rows measures number (suc hops) r =
    summed_step number r (summed_within rows measures number hops) (measuring_parent rows measures r)

abbrev pub summed : List Row → (ℕ → Bool) → (Above → ℕ → ℕ) → ℕ → ℕ
summed rows measures number r = summed_within rows measures number (length rows) r

-- P, the sum of the doubled hops, is `ahead` less `back`
abbrev pub ahead : List Row → (ℕ → Bool) → (ℕ → Port → ℕ) → ℕ → ℕ
ahead rows measures laps r = summed rows measures (hop_ahead rows measures laps) r

abbrev pub back : List Row → (ℕ → Bool) → (ℕ → Port → ℕ) → ℕ → ℕ
back rows measures laps r = summed rows measures (hop_back rows measures laps) r

-- half of P less that of the reference, rounded down, and 0 where it is negative
abbrev pub delay_from : List Row → (ℕ → Bool) → (ℕ → Port → ℕ) → Option ℕ → ℕ → ℕ
delay_from rows measures laps None r = 0
delay_from rows measures laps (Some reference) r =
    ((ahead rows measures laps r + back rows measures laps reference)
    - (back rows measures laps r + ahead rows measures laps reference)) / 2

-- the delay of a slave from the reference, which is the first timed slave in this order
abbrev pub delay : List Row → (ℕ → Bool) → (ℕ → Bool) → (ℕ → Port → ℕ) → List ℕ → ℕ → ℕ
delay rows measures timed laps order r = delay_from rows measures laps (find timed order) r

-- the delays of the timed slaves, in this order
abbrev pub delays_from : List Row → (ℕ → Bool) → (ℕ → Bool) → (ℕ → Port → ℕ) → Option ℕ → List ℕ → List (Option ℕ)
delays_from rows measures timed laps reference order =
    map (λ r. if timed r then Some (delay_from rows measures laps reference r) else None) order

abbrev pub delay_list : List Row → (ℕ → Bool) → (ℕ → Bool) → (ℕ → Port → ℕ) → List ℕ → List (Option ℕ)
delay_list rows measures timed laps order = delays_from rows measures timed laps (find timed order) order
