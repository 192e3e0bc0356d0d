-- A low half beside a time that is near.
use Rattle.std.proofs.Common.{◌≡◌, ℕ, ◌+◌, ◌-◌, ◌*◌, ◌%◌, ◌^◌, arith, ap, ◌∙◌, inl, inr}
use Rattle.std.specs.Prelude.{pos, negsuc, ◌-ℤ◌}
use Rattle.std.proofs.lemmas.Int.{ints}
use Rattle.std.proofs.lemmas.Bool.{cases_lt}
use Rattle.std.proofs.Math.Nat.{add-mul-mod_self_left}
use Rattle.wrap_time.specs.NearNumbers.{AreNear}
use Rattle.wrap_time.specs.Extended.{extended, moved_by}
use Rattle.wrap_time.proofs.Near.{word_difference_near}

pub times_extended : (u expected : ℕ) → AreNear 32 u expected → extended (u % 2 ^ 32) expected ≡ u % 2 ^ 64
times_extended u expected near =
    let d = word_difference_near 32 u expected (omega arith) near in
    ap (moved_by 64 expected) d
    ∙ elim (cases_lt u expected) [
      | inr le ↦
          let is : pos u -ℤ pos expected ≡ pos (u - expected) = omega (arith, ints, le) in
          let sum : expected + (u - expected) ≡ u = omega (arith, le) in
          ap (moved_by 64 expected) is ∙ ap (λ (x : ℕ). x % 2 ^ 64) sum
      | inl lt ↦
          let is : pos u -ℤ pos expected ≡ negsuc (expected - u - 1) = omega (arith, ints, lt) in
          let below = near.below in
          let sum : expected + (2 ^ 64 - (expected - u - 1 + 1)) ≡ u + 2 ^ 64 * 1 = omega (arith, lt, below) in
          ap (moved_by 64 expected) is ∙ ap (λ (x : ℕ). x % 2 ^ 64) sum ∙ add-mul-mod_self_left u (2 ^ 64) 1
    ]
