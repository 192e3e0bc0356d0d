use Rattle.std.proofs.Common.{◌≡◌, ℕ, ◌-◌, ◌^◌, ◌<◌, ◌≤◌, arith, sym, ap, ◌∙◌, false, true, pos, ℤ, to_z, of_z, w64, FitsSigned}
use Rattle.std.specs.Prelude.{unsigned_abs, ◌<ℤ◌, ◌≤ℤ◌, ◌-ℤ◌, ◌+ℤ◌}
use Rattle.std.proofs.Math.IntN.{neg_ℤ}
use Rattle.std.proofs.lemmas.Int.{ints, to_z-of_z}
use Rattle.local_clock.specs.AtOnce.{done, counted}
use Rattle.local_clock.proofs.AtOnce.{Ticked, ticked_above, ticked_below, less_by, more_by, above_zero, below_zero, signed_true, signed, unsigned_abs-signed}
use Rattle.local_clock.proofs.steps.ticked.Goals as goal

above : (z : ℤ) (s c g k d q : ℕ) → pos 0 <ℤ z → s ≡ unsigned_abs z → c < g → d ≡ done g s c k → q ≡ counted g s c k → Ticked false z c g k d q
above z s c g k d q some size below is counts =
    ticked_above z c g k d q some below (is ∙ ap (λ n. done g n c k) size) (counts ∙ ap (λ n. counted g n c k) size)

below : (z : ℤ) (s c g k d q : ℕ) → z ≤ℤ pos 0 → s ≡ unsigned_abs z → c < g → (z ≡ pos 0 → c ≡ 0) → d ≡ done g s c k → q ≡ counted g s c k → Ticked true z c g k d q
below z s c g k d q most size low rests is counts =
    ticked_below z c g k d q most low rests (is ∙ ap (λ n. done g n c k) size) (counts ∙ ap (λ n. counted g n c k) size)

-- what the code computes is the sum, which fits
minus : (z l : ℤ) (d : ℕ) → FitsSigned w64 z → pos 0 <ℤ z → d ≤ unsigned_abs z → l ≡ z -ℤ pos d → to_z w64 (of_z w64 (to_z w64 (of_z w64 z) -ℤ to_z w64 d)) ≡ l
minus z l d f some fits e = let a = above_zero z some in omega (arith, ints)

plus : (z l : ℤ) (d : ℕ) → FitsSigned w64 z → unsigned_abs z ≤ 2 ^ 31 → z ≤ℤ pos 0 → d ≤ unsigned_abs z → l ≡ z +ℤ pos d → to_z w64 (of_z w64 (to_z w64 (of_z w64 z) +ℤ to_z w64 d)) ≡ l
plus z l d f small most fits e = let a : z ≡ neg_ℤ (pos (unsigned_abs z)) = below_zero z most ∙ signed_true (unsigned_abs z) in omega (arith, ints)

pub overflow_sub-result : goal.overflow_sub-result
overflow_sub-result c =
    let some : pos 0 <ℤ c.args.left = grind (arith, ints) in
    let size : c.unsigned_abs.result ≡ unsigned_abs c.args.left = c.unsigned_abs.ensures.value ∙ ap unsigned_abs (to_z-of_z w64 c.args.left c.ranges.left) in
    let t = above c.args.left c.unsigned_abs.result c.args.count c.args.g c.args.k c.corrections-done.result.0 c.corrections-done.result.1 some size c.requires.below c.corrections-done.ensures.done c.corrections-done.ensures.counted in
    omega (arith, t.elapsed, c.from.ensures, c.from-ticks.ensures)

pub returns-then-left-gt0 : goal.returns-then-left-gt0
returns-then-left-gt0 c =
    let some : pos 0 <ℤ c.args.left = grind (arith, ints) in
    let size : c.unsigned_abs.result ≡ unsigned_abs c.args.left = c.unsigned_abs.ensures.value ∙ ap unsigned_abs (to_z-of_z w64 c.args.left c.ranges.left) in
    let t = above c.args.left c.unsigned_abs.result c.args.count c.args.g c.args.k c.corrections-done.result.0 c.corrections-done.result.1 some size c.requires.below c.corrections-done.ensures.done c.corrections-done.ensures.counted in
    let l = minus c.args.left (signed false (unsigned_abs c.args.left - c.corrections-done.result.0)) c.corrections-done.result.0 c.ranges.left some t.fits (less_by c.args.left _ some t.fits) in
    let u = unsigned_abs-signed false (unsigned_abs c.args.left - c.corrections-done.result.0) in
    record {
      elapsed = omega (arith, t.elapsed);
      left = minus c.args.left _ _ c.ranges.left some t.fits (t.left ∙ less_by c.args.left _ some t.fits);
      count = sym t.count;
      steady = (
        c.corrections-done.ensures.below,
        λ none. c.corrections-done.ensures.rests (let h = ap unsigned_abs (sym l ∙ none) in omega (arith, h, u, size, t.fits)),
        rw l (omega (arith, u, c.requires.small)),
      );
    }

pub returns-else-left-gt0 : goal.returns-else-left-gt0
returns-else-left-gt0 c =
    let most : c.args.left ≤ℤ pos 0 = grind (arith, ints) in
    let size : c.unsigned_abs.result ≡ unsigned_abs c.args.left = c.unsigned_abs.ensures.value ∙ ap unsigned_abs (to_z-of_z w64 c.args.left c.ranges.left) in
    let t = below c.args.left c.unsigned_abs.result c.args.count c.args.g c.args.k c.corrections-done.result.0 c.corrections-done.result.1 most size c.requires.below c.requires.rests c.corrections-done.ensures.done c.corrections-done.ensures.counted in
    let l = plus c.args.left (signed true (unsigned_abs c.args.left - c.corrections-done.result.0)) c.corrections-done.result.0 c.ranges.left c.requires.small most t.fits (more_by c.args.left _ most t.fits) in
    let u = unsigned_abs-signed true (unsigned_abs c.args.left - c.corrections-done.result.0) in
    record {
      elapsed = omega (arith, t.elapsed);
      left = plus c.args.left _ _ c.ranges.left c.requires.small most t.fits (t.left ∙ more_by c.args.left _ most t.fits);
      count = sym t.count;
      steady = (
        c.corrections-done.ensures.below,
        λ none. c.corrections-done.ensures.rests (let h = ap unsigned_abs (sym l ∙ none) in omega (arith, h, u, size, t.fits)),
        rw l (omega (arith, u, c.requires.small)),
      );
    }
