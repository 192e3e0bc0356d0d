-- The ticks of an interval and its length, where each gap is within e of 10,000,000 fs.
use Rattle.std.specs.Prelude.{◌≡◌, ℕ, suc, zero, ◌+◌, ◌-◌, ◌*◌, ◌/◌, ◌<◌, ◌≤◌}
use Rattle.std.proofs.Common.{arith, ap, sym, ◌∙◌, refl}
use Rattle.std.proofs.lemmas.Nat.{le-div}
use Rattle.std.proofs.Math.Nat.{mul-le-mul_right, div-lt_iff_lt-mul}
use Rattle.osc_clock.specs.Ticks.{Oscillator, IsRunning, ticks}
use Rattle.osc_clock.proofs.Exported.{not_too_many, not_too_few}
use Rattle.dc_bounds.specs.TickBounds.{tick_fs, tolerance, least_ticks}
use Rattle.dc_bounds.specs.TickFacts.{IsWithin, AreTicksOf}

-- k + 1 ticks in the length l are at most one more than the least gaps that fit into it
many : (l j e : ℕ) → e ≤ 1000 → j * (10000000 - e) < l → j ≤ l / (10000000 - e)
many l j e small h = le-div j l (10000000 - e) (omega arith) (omega arith)

up : (l j e : ℕ) → e ≤ 1000 → j * (10000000 - e) < l → (10000000 * suc j ≤ l + (10000000 + e * (l / (10000000 - e) + 2))) × (10000000 * suc j ≤ l + (10000000 + (suc j + 1) * e))
up l j e small h =
    let most = many l j e small h in
    let q = l / (10000000 - e) in
    let product : j * e ≤ q * e = mul-le-mul_right e most in
    let parts : j * (10000000 - e) + j * e ≡ 10000000 * j = ring j e small in
    let right : e * (q + 2) ≡ q * e + 2 * e = omega arith in
    let left : (suc j + 1) * e ≡ j * e + 2 * e = omega arith in
    (omega (arith, product, parts, right, h), omega (arith, parts, left, h))
  where
    sum : (j t e : ℕ) → t + e ≡ 10000000 → j * t + j * e ≡ 10000000 * j
    sum j t e whole = let parts : j * (t + e) ≡ j * t + j * e = omega arith in let all : j * (t + e) ≡ j * 10000000 = ap (λ x. j * x) whole in omega (arith, parts, all)

    ring : (j e : ℕ) → e ≤ 1000 → j * (10000000 - e) + j * e ≡ 10000000 * j
    ring j e small = sum j (10000000 - e) e (omega arith)

down : (l k e : ℕ) → e ≤ 1000 → k ≤ l / (10000000 - e) + 1 → l < suc k * (10000000 + e) → (l ≤ 10000000 * k + (10000000 + e * (l / (10000000 - e) + 2))) × (l ≤ 10000000 * k + (10000000 + (k + 1) * e))
down l k e small most h =
    let q = l / (10000000 - e) in
    let product : k * e ≤ (q + 1) * e = mul-le-mul_right e most in
    let right : e * (q + 2) ≡ (q + 1) * e + e = omega arith in
    let parts : suc k * (10000000 + e) ≡ 10000000 * k + k * e + 10000000 + e = omega arith in
    let left : (k + 1) * e ≡ k * e + e = omega arith in
    (omega (arith, product, parts, right, h), omega (arith, parts, left, h))

at_least : (ppm l k : ℕ) → l < suc k * (tick_fs + tolerance ppm) → least_ticks ppm l ≤ k
at_least ppm l k few = let under = (div-lt_iff_lt-mul (omega arith)).1 few in omega (arith, under)

ticks_of : (ppm l k : ℕ) → ppm ≤ 100 → ((j : ℕ) → k ≡ suc j → j * (tick_fs - tolerance ppm) < l) → l < suc k * (tick_fs + tolerance ppm) → AreTicksOf ppm l k
ticks_of ppm l zero small many few =
    let low = down l 0 (tolerance ppm) (omega arith) (omega arith) few in
    record {
      gap = record { above = omega arith; below = low.0 };
      count = record { above = omega arith; below = low.1 };
      least = at_least ppm l 0 few;
      most = omega arith;
    }
ticks_of ppm l (suc j) small enough few =
    let h = enough j refl in
    let e = tolerance ppm in
    let fits : e ≤ 1000 = omega arith in
    let most = many l j e fits h in
    let high = up l j e fits h in
    let low = down l (suc j) e fits (omega (arith, most)) few in
    record {
      gap = record { above = high.0; below = low.0 };
      count = record { above = high.1; below = low.1 };
      least = at_least ppm l (suc j) few;
      most = omega (arith, most);
    }

-- the ticks after a and at or before b
pub ticks_in_interval : (o : Oscillator) (ppm a b k : ℕ) → IsRunning o → ppm ≤ 100 → IsWithin ppm o → a ≤ b → ticks o a + k ≡ ticks o b → AreTicksOf ppm (b - a) k
ticks_in_interval o ppm a b k running small within order count =
    let low = tick_fs - tolerance ppm in
    let high = tick_fs + tolerance ppm in
    let few = not_too_few o low high a b k running within order count in
    ticks_of ppm (b - a) k small
    (λ j is. let many = not_too_many o low high a b j running within order (ap (λ n. ticks o a + n) (sym is) ∙ count) in omega (arith, many))
    (omega (arith, few))
