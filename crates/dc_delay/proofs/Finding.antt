-- The first position of those that are left.
use Rattle.std.specs.Prelude.{◌≡◌, ℕ, suc, ◌+◌, ◌-◌, ◌<◌, ◌≤◌, Bool, true, false, not, ◌&&◌, Option, Some, None, List, [], ◌∷◌, drop, filter, if◌then◌else◌}
use Rattle.std.specs.List.{find, range_with_len}
use Rattle.std.proofs.Common.{arith, refl, sym}
use Rattle.cable_tree.specs.Row.{Row}
use Rattle.dc_bounds.specs.Measurable.{is_measurable, unmeasurable}
use Rattle.dc_delay.specs.ShapeRows.{positions}

pub not_not : (b : Bool) → not (not b) ≡ b
not_not true = refl
not_not false = refl

-- what is left from a position on
pub left_step : (n k : ℕ) → k < n → range_with_len k (n - k) ≡ k ∷ range_with_len (k + 1) (n - (k + 1))
left_step n k h = let e : n - k ≡ suc (n - (k + 1)) = omega arith in rw e refl

pub left_end : (n k : ℕ) → n ≤ k → range_with_len k (n - k) ≡ []
left_end n k h = let e : n - k ≡ 0 = omega arith in rw e refl

pub found_here : (test : ℕ → Bool) (n k : ℕ) → k < n → test k ≡ true → find test (range_with_len k (n - k)) ≡ Some k
found_here test n k h is = rw (left_step n k h, is) refl

pub found_later : (test : ℕ → Bool) (n k : ℕ) → k < n → test k ≡ false → find test (range_with_len k (n - k)) ≡ find test (range_with_len (k + 1) (n - (k + 1)))
found_later test n k h is = rw (left_step n k h, is) refl

pub found_none : (test : ℕ → Bool) (n k : ℕ) → n ≤ k → find test (range_with_len k (n - k)) ≡ None
found_none test n k h = rw (left_end n k h) refl

-- the same among the measuring ones, where the first of these may still come
unfoldable pub unmeasurable_from : List Row → (ℕ → Bool) → Bool → List ℕ → Option ℕ
unmeasurable_from rows measures is_first left =
    find (λ r. not (is_measurable rows measures r)) (if is_first then drop 1 (filter measures left) else filter measures left)

pub begins : (rows : List Row) (measures : ℕ → Bool) (n : ℕ) → unmeasurable rows measures (positions n) ≡ unmeasurable_from rows measures true (range_with_len 0 (n - 0))
unfolding unmeasurable_from
begins rows measures n = let e : n - 0 ≡ n = omega arith in rw e refl

pub unmeasurable_none : (rows : List Row) (measures : ℕ → Bool) (is_first : Bool) (n k : ℕ) → n ≤ k → unmeasurable_from rows measures is_first (range_with_len k (n - k)) ≡ None
unfolding unmeasurable_from
unmeasurable_none rows measures true n k h = rw (left_end n k h) refl
unmeasurable_none rows measures false n k h = rw (left_end n k h) refl

-- the first measuring one is passed over
pub unmeasurable_first : (rows : List Row) (measures : ℕ → Bool) (n k : ℕ) (m : Bool) → k < n → measures k ≡ m
    → unmeasurable_from rows measures true (range_with_len k (n - k)) ≡ unmeasurable_from rows measures (not m) (range_with_len (k + 1) (n - (k + 1)))
unfolding unmeasurable_from
unmeasurable_first rows measures n k true h is = rw (left_step n k h, is) refl
unmeasurable_first rows measures n k false h is = rw (left_step n k h, is) refl

both : (rows : List Row) (measures : ℕ → Bool) (k : ℕ) (rest : List ℕ) (m f b : Bool) → measures k ≡ m → is_measurable rows measures k ≡ f → (m && not f) ≡ b
    → find (λ r. not (is_measurable rows measures r)) (filter measures (k ∷ rest)) ≡ (if b then Some k else find (λ r. not (is_measurable rows measures r)) (filter measures rest))
both rows measures k rest true true b em ef eb = rw (em, ef, sym eb) refl
both rows measures k rest true false b em ef eb = rw (em, ef, sym eb) refl
both rows measures k rest false f b em ef eb = rw (em, sym eb) refl

pub unmeasurable_here : (rows : List Row) (measures : ℕ → Bool) (n k : ℕ) → k < n → (measures k && not (is_measurable rows measures k)) ≡ true
    → unmeasurable_from rows measures false (range_with_len k (n - k)) ≡ Some k
unfolding unmeasurable_from
unmeasurable_here rows measures n k h is =
    rw (left_step n k h) (both rows measures k (range_with_len (k + 1) (n - (k + 1))) (measures k) (is_measurable rows measures k) true refl refl is)

pub unmeasurable_later : (rows : List Row) (measures : ℕ → Bool) (n k : ℕ) → k < n → (measures k && not (is_measurable rows measures k)) ≡ false
    → unmeasurable_from rows measures false (range_with_len k (n - k)) ≡ unmeasurable_from rows measures false (range_with_len (k + 1) (n - (k + 1)))
unfolding unmeasurable_from
unmeasurable_later rows measures n k h is =
    rw (left_step n k h) (both rows measures k (range_with_len (k + 1) (n - (k + 1))) (measures k) (is_measurable rows measures k) false refl refl is)
