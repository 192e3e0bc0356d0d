-- A division by g as a multiplication by its share of a power of two.
use Rattle.std.proofs.Common.{◌≡◌, ℕ, ◌+◌, ◌-◌, ◌*◌, ◌/◌, ◌%◌, ◌^◌, ◌<◌, ◌≤◌, sym, ap, ◌∙◌, arith}
use Rattle.std.proofs.lemmas.Nat.{div-add-mod', div-mul-add, le-div}
use Rattle.std.proofs.Math.Nat.{mod-lt, mul-le-mul_left, mul-le-mul_right, div-le_self}
use Rattle.local_clock.specs.AtOnce.{share_of}

-- with q rounds and r ticks more, where g has s in all, and e more than these s take
product : (g s u e q r : ℕ) → u + e ≡ g → q * (s * g + u) + (q * e + r * (s + 1)) ≡ (q * g + r) * (s + 1)
product g s u e q r is = rw (← is) (omega arith)

rest : (all g s u e n q r : ℕ) → s * g + u ≡ all → u + e ≡ g → q * g + r ≡ n → r < g → n + g ≤ s → q * e + r * (s + 1) < all
rest all g s u e n q r whole is split low few =
    let rounds : q * e ≤ q * g = mul-le-mul_left q (omega (arith, is)) in
    let ticks : (r + 1) * (s + 1) ≤ g * (s + 1) = mul-le-mul_right (s + 1) (omega (arith, low)) in
    omega (arith, rounds, ticks, whole, split, few)

by_share : (all n g : ℕ) → 0 < g → n + g ≤ all / g → n * (all / g + 1) / all ≡ n / g
by_share all n g some few =
    let whole : all / g * g + all % g ≡ all = div-add-mod' all g in
    let split : n / g * g + n % g ≡ n = div-add-mod' n g in
    let over : all % g < g = mod-lt all some in
    let low : n % g < g = mod-lt n some in
    let is : all % g + (g - all % g) ≡ g = omega (arith, over) in
    let sum = product g (all / g) (all % g) (g - all % g) (n / g) (n % g) is in
    let same : n / g * all + (n / g * (g - all % g) + n % g * (all / g + 1)) ≡ n * (all / g + 1) =
    ap (λ a. n / g * a + (n / g * (g - all % g) + n % g * (all / g + 1))) (sym whole) ∙ sum ∙ ap (λ m. m * (all / g + 1)) split in
    sym (ap (λ m. m / all) same) ∙ div-mul-add (n / g) all _ (rest all g (all / g) (all % g) (g - all % g) n (n / g) (n % g) whole is split low few)

-- fewer than 2 ^ 23 ticks beside those that are counted
pub divided : (n g : ℕ) → 0 < g → g < 256 → n < 2 ^ 23 + 256 → n * share_of g / 2 ^ 32 ≡ n / g
divided n g some small few =
    let square : (n + g) * g ≤ (n + g) * 255 = mul-le-mul_left (n + g) (omega (arith, small)) in
    by_share (2 ^ 32) n g some (le-div (n + g) (2 ^ 32) g some (omega (arith, square, few, small)))

pub rest_is : (n g : ℕ) → n - n / g * g ≡ n % g
rest_is n g = let split = div-add-mod' n g in omega (arith, split)

-- the product fits
pub product_fits : (n g : ℕ) → n < 2 ^ 23 + 256 → n * share_of g < 2 ^ 64
product_fits n g few =
    let most : 2 ^ 32 / g ≤ 2 ^ 32 = div-le_self (2 ^ 32) g in
    let fits : n * share_of g ≤ n * (2 ^ 32 + 1) = mul-le-mul_left n (omega (arith, most)) in
    omega (arith, fits, few)
