-- Which slave has no weight.
use Rattle.std.specs.Prelude.{◌≡◌, ◌↔◌, ℕ, suc, zero, ◌+◌, ◌*◌, ◌/◌, Bool, true, false, nat_eq, if◌then◌else◌, Some, None, List, length}
use Rattle.std.proofs.Common.{arith, refl, sym, ap, ◌∙◌}
use Rattle.std.proofs.lemmas.Bool.Decides.{nat_tests}
use Rattle.std.proofs.lemmas.Nat.{le-div}
use Rattle.cable_tree.specs.Row.{Row}
use Rattle.dc_bounds.specs.TickBounds.{tick_gap}
use Rattle.dc_bounds.specs.DelayBound.{delay_bound}
use Rattle.dc_bounds.specs.Weight.{hops_within, is_leaf, is_over_within, meeting, meeting_within, weight_below, weight_to, weight, reference}

same : (r : ℕ) → nat_eq r r ≡ true
same r = grind (arith, nat_tests)

over_itself : (rows : List Row) (measures : ℕ → Bool) (r n : ℕ) → is_over_within rows measures r (suc n) r ≡ true
unfolding is_over_within
over_itself rows measures r n = rw (same r) refl

-- the way from the reference upwards meets that to the reference at once
meets_itself : (rows : List Row) (measures : ℕ → Bool) (q n : ℕ) → length rows ≡ n → meeting_within rows measures q n q ≡ q
unfolding meeting_within
meets_itself rows measures q zero e = refl
meets_itself rows measures q (suc n) e = rw (e, over_itself rows measures q n) refl

below_itself : (rows : List Row) (measures : ℕ → Bool) (r : ℕ) → weight_below rows measures r r ≡ 0
below_itself rows measures r = rw (same r) refl

pub at_reference : (rows : List Row) (measures : ℕ → Bool) (q : ℕ) → weight_to rows measures q (Some q) ≡ 0
at_reference rows measures q =
    let meets : meeting rows measures q q ≡ q = meets_itself rows measures q (length rows) refl in
    rw (meets, below_itself rows measures q) refl

-- a way of no weight is none
no_way : (rows : List Row) (measures : ℕ → Bool) (c r : ℕ) → weight_below rows measures c r ≡ 0 → r ≡ c
no_way rows measures c r e = by (nat_eq r c) (is_leaf rows r) refl
  where
    by : (b leaf : Bool) → nat_eq r c ≡ b → r ≡ c
    by true leaf at = grind (arith, nat_tests, at)
    by false leaf at =
        let some : 1 + hops_within rows measures c (length rows) r + (if is_leaf rows r then 0 else 1) ≡ 0 = sym (rw at refl) ∙ e in
        absurd (omega (arith, some))

pub alone : (rows : List Row) (measures : ℕ → Bool) (q r : ℕ) → weight_to rows measures r (Some q) ≡ 0 → r ≡ q
alone rows measures q r e =
    let c = meeting rows measures q r in
    no_way rows measures c r (omega (arith, e)) ∙ sym (no_way rows measures c q (omega (arith, e)))

pub weightless : (rows : List Row) (measures timed : ℕ → Bool) (q r : ℕ) → reference rows timed ≡ Some q → (weight rows measures timed r ≡ 0) ↔ (r ≡ q)
weightless rows measures timed q r e = (
  λ none. alone rows measures q r (sym (ap (weight_to rows measures r) e) ∙ none),
  λ is. rw (is, e) (at_reference rows measures q),
)

pub no_clock : (rows : List Row) (measures timed : ℕ → Bool) (r : ℕ) → reference rows timed ≡ None → weight rows measures timed r ≡ 0
no_clock rows measures timed r e = rw e refl

some_bound : (ppm w l : ℕ) → delay_bound ppm w l ≡ 0 → w ≡ 0
some_bound ppm w l e = by (nat_eq w 0) refl
  where
    by : (none : Bool) → nat_eq w 0 ≡ none → w ≡ 0
    by true at = grind (arith, nat_tests, at)
    by false at =
        let half : (w * tick_gap ppm l + 1000000) / 2 ≡ 0 = sym (rw at refl) ∙ e in
        let least = le-div 1 (w * tick_gap ppm l + 1000000) 2 (omega arith) (omega arith) in
        absurd (omega (arith, least, half))

pub boundless : (ppm : ℕ) (rows : List Row) (measures timed : ℕ → Bool) (q r l : ℕ) → reference rows timed ≡ Some q
    → (delay_bound ppm (weight rows measures timed r) l ≡ 0) ↔ (r ≡ q)
boundless ppm rows measures timed q r l e = (
  λ none. (weightless rows measures timed q r e).0 (some_bound ppm (weight rows measures timed r) l none),
  λ is. rw ((weightless rows measures timed q r e).1 is) refl,
)
