-- A division by a period as a multiplication by its share of a power of two.
use Rattle.std.proofs.Common.{◌≡◌, ℕ, ◌+◌, ◌-◌, ◌*◌, ◌/◌, ◌^◌, ◌<◌, ◌≤◌, arith, ap, ap₂, sym, ◌∙◌}
use Rattle.std.proofs.lemmas.Nat.{div-mul-add}
use Rattle.std.proofs.Math.Nat.{mul-le-mul_left, mul-le-mul_right, div-mul-le_self, lt-div-mul-add, le_of_mul-le-mul_right, lt_of_mul-lt-mul_right}
use Rattle.osc_clock.specs.Standing.{share_of}

-- where m is the share of all, and e what a time takes of it, e periods are at most the time
under : (all time period m e : ℕ) → 0 < all → m * period ≤ all → e * all ≤ time * m → e * period ≤ time
under all time period m e positive low few =
    let a : e * all * period ≤ time * m * period = mul-le-mul_right period few in
    let b : time * (m * period) ≤ time * all = mul-le-mul_left time low in
    let c : e * period * all ≤ time * all = omega (arith, a, b) in
    le_of_mul-le-mul_right c positive

-- and it is less than two periods more
over : (all time period m e : ℕ) → 0 < period → time < all → all ≤ m * period + period → time * m < e * all + all
    → time < e * period + period + period
over all time period m e some fits high many =
    let a : (time * m + 1) * period ≤ (e * all + all) * period = mul-le-mul_right period (omega (arith, many)) in
    let b : time * all ≤ time * (m * period + period) = mul-le-mul_left time high in
    let c : time * period ≤ all * period = mul-le-mul_right period (omega (arith, fits)) in
    let d : time * all < (e * period + period + period) * all = omega (arith, a, b, c, some) in
    lt_of_mul-lt-mul_right all d

-- what the time takes of a share, beside the quotient
pub record IsNear (time period e : ℕ) : Type 0 where
  pub under : e * period ≤ time
  pub over : time < e * period + period + period

pub near : (time period share f h : ℕ) → 0 < period → time < 2 ^ 64 → share ≡ share_of period → f ≡ time → h ≡ share → IsNear time period (f * h / 2 ^ 64)
near time period share f h some fits is first second =
    let m = (2 ^ 64 - 1) / period in
    let same : f * h / 2 ^ 64 ≡ time * m / 2 ^ 64 = ap₂ (λ n k. n * k / 2 ^ 64) first (second ∙ is) in
    let low : m * period ≤ 2 ^ 64 - 1 = div-mul-le_self (2 ^ 64 - 1) period in
    let high : 2 ^ 64 - 1 < m * period + period = lt-div-mul-add some in
    let few : time * m / 2 ^ 64 * 2 ^ 64 ≤ time * m = div-mul-le_self (time * m) (2 ^ 64) in
    let many : time * m < time * m / 2 ^ 64 * 2 ^ 64 + 2 ^ 64 = lt-div-mul-add (omega arith) in
    rw same (record {
      under = under (2 ^ 64) time period m (time * m / 2 ^ 64) (omega arith) (omega (arith, low)) few;
      over = over (2 ^ 64) time period m (time * m / 2 ^ 64) some fits (omega (arith, high)) many;
    })

-- the quotient of a time that lies between two multiples
pub quotient : (time period e : ℕ) → e * period ≤ time → time < e * period + period → e ≡ time / period
quotient time period e from to =
    let split : e * period + (time - e * period) ≡ time = omega (arith, from) in
    sym (div-mul-add e period (time - e * period) (omega (arith, from, to))) ∙ ap (λ n. n / period) split
