-- The words of numbers less than half of 2^w apart are as far apart as the numbers.
use Rattle.std.proofs.Common.{◌≡◌, ℕ, suc, ◌+◌, ◌-◌, ◌*◌, ◌/◌, ◌%◌, ◌^◌, ◌<◌, ◌≤◌, arith, ap, ◌∙◌, inl, inr}
use Rattle.std.specs.Prelude.{pos, negsuc, ◌-ℤ◌}
use Rattle.std.proofs.lemmas.Int.{ints}
use Rattle.std.proofs.lemmas.Nat.{pow_pos}
use Rattle.std.proofs.lemmas.Bool.{cases_lt}
use Rattle.std.proofs.lemmas.Bool.Decides.{nat_tests}
use Rattle.std.proofs.Math.Nat.{mod-add-mod, mod-eq_of_lt, add-mul-mod_self_left, pow-suc}
use Rattle.wrap_time.specs.WordDifference.{signed_of, word_difference}
use Rattle.wrap_time.specs.NearNumbers.{AreNear}

-- what is left of a wrapped difference, upwards
pub ahead : (m v k : ℕ) → 0 < m → k < m → ((v + k) % m + (m - v % m)) % m ≡ k
ahead m v k some below =
    let is : (v + k) + (m - v % m) ≡ k + m * (v / m + 1) = omega arith in
    mod-add-mod (v + k) m (m - v % m) ∙ ap (λ x. x % m) is ∙ add-mul-mod_self_left k m (v / m + 1) ∙ mod-eq_of_lt below

-- and downwards
behind : (m u k : ℕ) → 0 < m → 0 < k → k < m → (u % m + (m - (u + k) % m)) % m ≡ m - k
behind m u k some positive below =
    let is : u + (m - (u + k) % m) ≡ (m - k) + m * ((u + k) / m) = omega arith in
    let less : m - k < m = omega arith in
    mod-add-mod u m (m - (u + k) % m) ∙ ap (λ x. x % m) is ∙ add-mul-mod_self_left (m - k) m ((u + k) / m) ∙ mod-eq_of_lt less

halves : (w : ℕ) → 0 < w → 2 ^ w ≡ 2 * 2 ^ (w - 1)
halves w some =
    let e : suc (w - 1) ≡ w = omega arith in
    let p : 2 ^ suc (w - 1) ≡ 2 * 2 ^ (w - 1) = pow-suc 2 (w - 1) ∙ omega arith in
    rw e at p

signed_small : (w n : ℕ) → n < 2 ^ (w - 1) → signed_of w n ≡ pos n
signed_small w n small = grind (arith, nat_tests)

signed_large : (w n : ℕ) → 2 ^ (w - 1) ≤ n → signed_of w n ≡ negsuc (2 ^ w - (n + 1))
signed_large w n large = grind (arith, nat_tests)

pub word_difference_near : (w u v : ℕ) → 0 < w → AreNear w u v → word_difference w (u % 2 ^ w) (v % 2 ^ w) ≡ pos u -ℤ pos v
word_difference_near w u v h near =
    let half : 2 ^ w ≡ 2 * 2 ^ (w - 1) = halves w h in
    let some : 0 < 2 ^ w = pow_pos w in
    elim (cases_lt u v) [
      | inr le ↦
          let e : v + (u - v) ≡ u = omega arith in
          let d : (u % 2 ^ w + (2 ^ w - v % 2 ^ w)) % 2 ^ w ≡ u - v = rw e at (ahead (2 ^ w) v (u - v) some (omega (arith, near.above))) in
          ap (signed_of w) d ∙ signed_small w (u - v) (omega (arith, near.above)) ∙ omega (arith, ints)
      | inl lt ↦
          let e : u + (v - u) ≡ v = omega arith in
          let d : (u % 2 ^ w + (2 ^ w - v % 2 ^ w)) % 2 ^ w ≡ 2 ^ w - (v - u) = rw e at (behind (2 ^ w) u (v - u) some (omega arith) (omega (arith, near.below))) in
          ap (signed_of w) d ∙ signed_large w (2 ^ w - (v - u)) (omega (arith, near.below))
          ∙ (let n : 2 ^ w - (2 ^ w - (v - u) + 1) ≡ v - u - 1 = omega (arith, near.below) in ap negsuc n) ∙ omega (arith, ints)
    ]
