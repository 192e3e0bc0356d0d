-- How the bounds grow.
use Rattle.std.specs.Prelude.{◌≡◌, ℕ, ◌+◌, ◌-◌, ◌*◌, ◌/◌, ◌<◌, ◌≤◌}
use Rattle.std.proofs.Common.{arith}
use Rattle.std.proofs.lemmas.Bool.Decides.{nat_tests}
use Rattle.std.proofs.lemmas.Nat.{le-div}
use Rattle.std.proofs.Math.Nat.{mul-le-mul_right, mul-le-mul_left, div-mul-le_self}
use Rattle.dc_bounds.specs.TickBounds.{tick_fs, tolerance, tick_gap, count_gap, least_ticks, jump}
use Rattle.dc_bounds.specs.TickFacts.{IsNear, AreTicksOf}
use Rattle.dc_bounds.specs.LockNumbers.{period_fs}
use Rattle.dc_bounds.specs.DelayBound.{delay_bound}
use Rattle.dc_bounds.specs.CopyBound.{copy_bound}

pub quotients_rise : (a b g : ℕ) → 0 < g → a ≤ b → a / g ≤ b / g
quotients_rise a b g some h = let low = div-mul-le_self a g in le-div (a / g) b g some (omega (arith, low))

pub tick_gap_rises : (ppm l m : ℕ) → ppm ≤ 100 → l ≤ m → tick_gap ppm l ≤ tick_gap ppm m
tick_gap_rises ppm l m small h =
    let q = quotients_rise l m (tick_fs - tolerance ppm) (omega arith) h in
    let product : tolerance ppm * (l / (tick_fs - tolerance ppm) + 2) ≤ tolerance ppm * (m / (tick_fs - tolerance ppm) + 2) = mul-le-mul_left (tolerance ppm) (omega (arith, q)) in
    omega (arith, product)

pub jump_rises : (ppm l m : ℕ) → ppm ≤ 100 → l ≤ m → jump ppm l ≤ jump ppm m
jump_rises ppm l m small h = quotients_rise (2 * tick_gap ppm l) (2 * tick_gap ppm m) 1000000 (omega arith) (let g = tick_gap_rises ppm l m small h in omega (arith, g))

pub least_ticks_rise : (ppm l m : ℕ) → l ≤ m → least_ticks ppm l ≤ least_ticks ppm m
least_ticks_rise ppm l m h = quotients_rise l m (tick_fs + tolerance ppm) (omega arith) h

pub count_gap_rises : (ppm j k : ℕ) → j ≤ k → count_gap ppm j ≤ count_gap ppm k
count_gap_rises ppm j k h = let product : (j + 1) * tolerance ppm ≤ (k + 1) * tolerance ppm = mul-le-mul_right (tolerance ppm) (omega arith) in omega (arith, product)

pub jump_within : (ppm l : ℕ) → 1000000 * jump ppm l ≤ 2 * tick_gap ppm l
jump_within ppm l = let low = div-mul-le_self (2 * tick_gap ppm l) 1000000 in omega (arith, low)

pub within_jump : (ppm l x : ℕ) → 1000000 * x ≤ 2 * tick_gap ppm l → x ≤ jump ppm l
within_jump ppm l x h = le-div x (2 * tick_gap ppm l) 1000000 (omega arith) (omega (arith, h))

-- the one size that is needed of G
pub tick_gap_near : (ppm l : ℕ) → ppm ≤ 100 → 9999 * tick_gap ppm l ≤ l + 9999 * 10002000
tick_gap_near ppm l small =
    let e = tolerance ppm in
    let q = l / (tick_fs - e) in
    let low : q * (tick_fs - e) ≤ l = div-mul-le_self l (tick_fs - e) in
    let rate : q * (9999 * e) ≤ q * (tick_fs - e) = mul-le-mul_left q (omega arith) in
    let parts : e * (q + 2) ≡ q * e + 2 * e = omega arith in
    let scaled : q * (9999 * e) ≡ 9999 * (q * e) = omega arith in
    omega (arith, low, rate, parts, scaled)

-- two clocks over equal lengths
pub two_clocks : (ppm l j k : ℕ) → AreTicksOf ppm l j → AreTicksOf ppm l k → IsNear (10 * j) (10 * k) (jump ppm l)
two_clocks ppm l j k p q =
    let apart : (x y : ℕ) → IsNear (tick_fs * x) l (tick_gap ppm l) → IsNear (tick_fs * y) l (tick_gap ppm l) → 10 * x ≤ 10 * y + jump ppm l = λ x y near other.
    let fits = within_jump ppm l (10 * x - 10 * y) (omega (arith, near.above, other.below)) in omega (arith, fits) in
    record { above = apart j k p.gap q.gap; below = apart k j q.gap p.gap }

-- every bound that a run needs is at most a quarter of a frame period
pub quarter : (ppm frame_ns loss_run weight round_trip delay l : ℕ) → ppm ≤ 100 → 50000 ≤ frame_ns → loss_run ≤ 15 → weight ≤ 1024
    → round_trip < period_fs frame_ns → delay ≤ round_trip → l ≤ 784 * period_fs frame_ns
    → 4 * (tick_gap ppm l + copy_bound ppm frame_ns loss_run (delay_bound ppm weight round_trip) delay) ≤ period_fs frame_ns
quarter ppm frame_ns m w lambda d l small frame losses light short early length =
    let f = period_fs frame_ns in
    let silence = (m + 1) * f in
    let silence_short : silence ≤ 16 * f = mul-le-mul_right f (omega arith) in
    let g1 = tick_gap_near ppm l small in
    let g16 = tick_gap_near ppm silence small in
    let q16 = jump_within ppm silence in
    let g17 = tick_gap_near ppm (silence + d) small in
    let gl = tick_gap_near ppm lambda small in
    let product : w * tick_gap ppm lambda ≤ 1024 * tick_gap ppm lambda = mul-le-mul_right (tick_gap ppm lambda) light in
    let half = bound_half ppm w lambda in
    omega (arith, silence_short, g1, q16, g16, g17, gl, product, half)
  where
    bound_half : (ppm w lambda : ℕ) → 2 * delay_bound ppm w lambda ≤ w * tick_gap ppm lambda + 1000000
    bound_half ppm w lambda = let low = div-mul-le_self (w * tick_gap ppm lambda + 1000000) 2 in grind (arith, nat_tests)
