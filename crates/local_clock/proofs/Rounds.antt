-- The ticks after the last correction, from those that a division leaves.
use Rattle.std.proofs.Common.{◌≡◌, ℕ, ◌+◌, ◌-◌, ◌*◌, ◌/◌, ◌%◌, ◌<◌, ◌≤◌, sym, ap, ◌∙◌, arith}
use Rattle.std.proofs.Math.Nat.{div-add-mod, mod-lt}
use Rattle.std.proofs.lemmas.Nat.{mod-mul-add}

pub rest_below : (c g k : ℕ) → c + k % g < g → c + k % g ≡ (c + k) % g
rest_below c g k h =
    let d = div-add-mod k g in
    let e : k / g * g + (c + k % g) ≡ c + k = omega (arith, d) in
    sym (mod-mul-add (k / g) g (c + k % g) h) ∙ ap (λ n. n % g) e

pub rest_above : (c g k : ℕ) → c < g → g ≤ c + k % g → c + k % g - g ≡ (c + k) % g
rest_above c g k low h =
    let d = div-add-mod k g in
    let some : 0 < g = omega (arith, low) in
    let m = mod-lt k some in
    let e : (k / g + 1) * g + (c + k % g - g) ≡ c + k = omega (arith, d, h) in
    let below : c + k % g - g < g = omega (arith, low, m) in
    sym (mod-mul-add (k / g + 1) g (c + k % g - g) below) ∙ ap (λ n. n % g) e
