-- When the word of a number is behind that of another.
use Rattle.std.specs.Prelude.{◌≡◌, ℕ, ◌+◌, ◌-◌, ◌%◌, ◌^◌, ◌<◌, pos, negsuc, true, false, nat_lt, ◌-ℤ◌}
use Rattle.std.proofs.Common.{arith, rules, sym, ap, ◌∙◌, inl, inr}
use Rattle.std.proofs.lemmas.Int.{ints}
use Rattle.std.proofs.lemmas.Bool.{cases_lt}
use Rattle.std.proofs.lemmas.Bool.Decides.{nat_tests}
use Rattle.wrap_time.specs.NearNumbers.{AreNear}
use Rattle.wrap_time.proofs.Exported.{word_difference_near}
use Rattle.local_clock.specs.FirstReaching.{is_negative, is_behind}

sign : (u v : ℕ) → is_negative (pos u -ℤ pos v) ≡ nat_lt u v
sign u v = elim (cases_lt u v) [
  | inl less ↦
      let t : nat_lt u v ≡ true = search (rules, nat_tests) in
      let d : pos u -ℤ pos v ≡ negsuc (v - (u + 1)) = omega (arith, ints, less) in
      ap is_negative d ∙ sym t
  | inr more ↦
      let t : nat_lt u v ≡ false = search (rules, nat_tests) in
      let d : pos u -ℤ pos v ≡ pos (u - v) = omega (arith, ints, more) in
      ap is_negative d ∙ sym t
]

pub behind_near : (w u v : ℕ) → 0 < w → AreNear w u v → is_behind w (u % 2 ^ w) (v % 2 ^ w) ≡ nat_lt u v
behind_near w u v some near = ap is_negative (word_difference_near w u v some near) ∙ sign u v
