-- How large the numbers are, for sums and casts that fit.
use Rattle.std.proofs.Common.{◌≡◌, ℕ, ◌+◌, ◌-◌, ◌*◌, ◌/◌, ◌^◌, ◌<◌, ◌≤◌, arith}
use Rattle.std.proofs.Common.{pos, ◌-ℤ◌, to_z, of_z}
use Rattle.std.specs.Int.{w128}
use Rattle.std.proofs.lemmas.Int.{ints}
use Rattle.std.proofs.lemmas.Nat.{mul-le}
use Rattle.std.proofs.Math.Nat.{div-le_self}
use Rattle.dc_bounds.specs.TickBounds.{tick_gap, least_ticks, jump, tick_fs, tolerance}

pub tick_gap_size : (ppm length : ℕ) → ppm ≤ 100 → tick_gap ppm length ≤ 10000000 + 1000 * (length + 2)
tick_gap_size ppm length few =
    let part = div-le_self length (tick_fs - tolerance ppm) in
    let product : tolerance ppm * (length / (tick_fs - tolerance ppm) + 2) ≤ 1000 * (length + 2) = mul-le (tolerance ppm) (length / (tick_fs - tolerance ppm) + 2) 1000 (length + 2) (omega arith) (omega (arith, part)) in
    omega (arith, product)

pub jump_size : (ppm length : ℕ) → ppm ≤ 100 → jump ppm length ≤ 20000000 + 2000 * (length + 2)
jump_size ppm length few =
    let gap = tick_gap_size ppm length few in
    let part = div-le_self (2 * tick_gap ppm length) 1000000 in
    omega (arith, gap, part)

pub least_ticks_size : (ppm length : ℕ) → least_ticks ppm length ≤ length
least_ticks_size ppm length = div-le_self length (tick_fs + tolerance ppm)

-- what the code computes is the difference
pub as_difference : (a b : ℕ) → a < 2 ^ 100 → b < 2 ^ 100 → to_z w128 (of_z w128 (to_z w128 a -ℤ to_z w128 b)) ≡ pos a -ℤ pos b
as_difference a b p q = omega (arith, ints)
