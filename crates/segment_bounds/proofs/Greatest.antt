-- What the greatest number of pairs is.
use Rattle.std.specs.Prelude.{◌≡◌, ℕ, suc, zero, ◌+◌, ◌*◌, ◌<◌, ◌≤◌, max, ◌⊎◌, nat_eq, Bool, true, false, List, [], ◌∷◌, length, slice_index_or}
use Rattle.std.proofs.Common.{arith, refl, inl, inr}
use Rattle.std.proofs.lemmas.Bool.{cases_lt}
use Rattle.std.proofs.lemmas.Bool.Decides.{nat_tests}
use Rattle.dc_bounds.specs.CopyBound.{window}
use Rattle.segment_file.specs.Segment.{SegmentValue}
use Rattle.segment_bounds.specs.Bounds.{copy_bound_at}
use Rattle.segment_bounds.specs.Window.{apart, window_between, greatest, greatest_with, signals_from, window_of}
use Rattle.segment_bounds.specs.declared.signal.Signal.{Signal}

below_max : (x m n : ℕ) → x ≤ n → x ≤ max m n
below_max x m n low = omega (arith, low)

with_most : {X : Type 0} (number : X → X → ℕ) (a : X) (bs : List X) (j : ℕ) (d : X) → j < length bs → number a (slice_index_or bs j d) ≤ greatest_with number a bs
unfolding greatest_with
with_most number a [] j d low = absurd (omega (arith, low))
with_most number a (b ∷ bs) zero d low = omega arith
with_most number a (b ∷ bs) (suc j) d low = below_max _ (number a b) (greatest_with number a bs) (with_most number a bs j d (omega (arith, low)))

pub most : {X : Type 0} (number : X → X → ℕ) (as' : List X) (i j : ℕ) (d : X) → i < j → j < length as' → number (slice_index_or as' i d) (slice_index_or as' j d) ≤ greatest number as'
unfolding greatest
most number [] i j d order low = absurd (omega (arith, low))
most number (a ∷ as') i zero d order low = absurd (omega (arith, order))
most number (a ∷ as') zero (suc j) d order low = let here = with_most number a as' j d (omega (arith, low)) in omega (arith, here)
most number (a ∷ as') (suc i) (suc j) d order low = below_max _ (greatest_with number a as') (greatest number as') (most number as' i j d (omega (arith, order)) (omega (arith, low)))

with_one : {X : Type 0} (number : X → X → ℕ) (a : X) (bs : List X) (d : X)
    → (greatest_with number a bs ≡ 0) ⊎ ((j : ℕ) × (j < length bs) × (greatest_with number a bs ≡ number a (slice_index_or bs j d)))
unfolding greatest_with
with_one number a [] d = inl refl
with_one number a (b ∷ bs) d = by (cases_lt (number a b) (greatest_with number a bs)) (with_one number a bs d)
  where
    by : (number a b < greatest_with number a bs) ⊎ (greatest_with number a bs ≤ number a b)
        → (greatest_with number a bs ≡ 0) ⊎ ((j : ℕ) × (j < length bs) × (greatest_with number a bs ≡ number a (slice_index_or bs j d)))
        → (max (number a b) (greatest_with number a bs) ≡ 0)
        ⊎ ((j : ℕ) × (j < length (b ∷ bs)) × (max (number a b) (greatest_with number a bs) ≡ number a (slice_index_or (b ∷ bs) j d)))
    by (inr high) rest = inr (0, omega arith, omega (arith, high))
    by (inl low) (inl none) = absurd (omega (arith, low, none))
    by (inl low) (inr one) = inr (suc one.0, omega (arith, one.1), omega (arith, low, one.2))

pub one_of : {X : Type 0} (number : X → X → ℕ) (as' : List X) (d : X)
    → (greatest number as' ≡ 0) ⊎ ((i j : ℕ) × (i < j) × (j < length as') × (greatest number as' ≡ number (slice_index_or as' i d) (slice_index_or as' j d)))
unfolding greatest
one_of number [] d = inl refl
one_of number (a ∷ as') d = by (cases_lt (greatest_with number a as') (greatest number as')) (one_of number as' d) (with_one number a as' d)
  where
    by : (greatest_with number a as' < greatest number as') ⊎ (greatest number as' ≤ greatest_with number a as')
        → (greatest number as' ≡ 0) ⊎ ((i j : ℕ) × (i < j) × (j < length as') × (greatest number as' ≡ number (slice_index_or as' i d) (slice_index_or as' j d)))
        → (greatest_with number a as' ≡ 0) ⊎ ((j : ℕ) × (j < length as') × (greatest_with number a as' ≡ number a (slice_index_or as' j d)))
        → (max (greatest_with number a as') (greatest number as') ≡ 0)
        ⊎ ((i j : ℕ) × (i < j) × (j < length (a ∷ as')) × (max (greatest_with number a as') (greatest number as') ≡ number (slice_index_or (a ∷ as') i d) (slice_index_or (a ∷ as') j d)))
    by (inl low) (inl none) here = absurd (omega (arith, low, none))
    by (inl low) (inr two) here = inr (suc two.0, suc two.1, omega (arith, two.2), omega (arith, two.3), omega (arith, low, two.4))
    by (inr high) rest (inl none) = inl (omega (arith, high, none))
    by (inr high) rest (inr one) = inr (0, suc one.0, omega arith, omega (arith, one.1), omega (arith, high, one.2))

pub no_pair_above : (s : SegmentValue) (i j : ℕ) (d : Signal) → i < j → j < length (signals_from 0 s.rows)
    → window_between s (slice_index_or (signals_from 0 s.rows) i d) (slice_index_or (signals_from 0 s.rows) j d) ≤ window_of s
unfolding window_of
no_pair_above s i j d order low = most (window_between s) (signals_from 0 s.rows) i j d order low

pub of_one_pair : (s : SegmentValue) (d : Signal) → (window_of s ≡ 0) ⊎ ((i j : ℕ) × (i < j) × (j < length (signals_from 0 s.rows))
    × (window_of s ≡ window_between s (slice_index_or (signals_from 0 s.rows) i d) (slice_index_or (signals_from 0 s.rows) j d)))
unfolding window_of
of_one_pair s d = one_of (window_between s) (signals_from 0 s.rows) d

-- which of two comes first
windows_alike : (ppm m n x y : ℕ) → m ≡ n → window ppm m x y ≡ window ppm n y x
windows_alike ppm m n x y e =
    let sum : 10000000 + x + y ≡ 10000000 + y + x = omega arith in
    let between : 1000000 * n + 10000000 + x + y ≡ 1000000 * n + 10000000 + y + x = omega arith in
    rw (e, sum, between) refl

pub either_order : (s : SegmentValue) (a b : Signal) → window_between s a b ≡ window_between s b a
either_order s a b = by (nat_eq a.row b.row) refl
  where
    shifts : apart a.shift_ns b.shift_ns ≡ apart b.shift_ns a.shift_ns
    shifts = omega arith

    by : (same : Bool) → nat_eq a.row b.row ≡ same → window_between s a b ≡ window_between s b a
    by true e = let back : nat_eq b.row a.row ≡ true = grind (arith, nat_tests, e) in rw (e, back) refl
    by false e =
        let back : nat_eq b.row a.row ≡ false = grind (arith, nat_tests, e) in
        rw (e, back) (windows_alike s.head.ppm (apart a.shift_ns b.shift_ns) (apart b.shift_ns a.shift_ns) (copy_bound_at s a.row) (copy_bound_at s b.row) shifts)
