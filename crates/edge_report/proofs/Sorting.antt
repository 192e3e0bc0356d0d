-- A list that is sorted by a number is its elements of the least number, then those of the next one, and so on.
use Rattle.std.specs.Prelude.{◌≡◌, ℕ, zero, suc, ◌+◌, ◌<◌, ◌≤◌, Bool, true, false, not, nat_eq, ◌&&◌, List, [], ◌∷◌, ◌++◌, slice_index_or}
use Rattle.std.specs.List.{All, filter, flat_map, range_with_len}
use Rattle.std.specs.List.Sorted.{IsNonDecreasingBy, IsSortedBy}
use Rattle.std.specs.Cmp.{IsStrictWeakOrder}
use Rattle.std.proofs.Common.{ap, sym, refl, ◌∙◌, arith}
use Rattle.std.proofs.lemmas.Bool.Decides.{nat_tests}
use Rattle.std.proofs.lemmas.List.Elements.{All-nil, All-cons, All-head, All-tail, All-filter, All-get_or}
use Rattle.std.proofs.lemmas.List.Kept.{IsNonDecreasingBy-filter}
use Rattle.std.proofs.lemmas.List.Sorted.{sorted_far}

-- a filter that keeps all, and one that keeps none
keeps_all : {X : Type 0} (p : X → Bool) (xs : List X) → All (λ x. p x ≡ true) xs → filter p xs ≡ xs
keeps_all p [] all = refl
keeps_all p (x ∷ xs) all = rw (All-head (λ y. p y ≡ true) x xs all) (ap (λ t. x ∷ t) (keeps_all p xs (All-tail (λ y. p y ≡ true) x xs all)))

pub keeps_none : {X : Type 0} (p : X → Bool) (xs : List X) → All (λ x. p x ≡ false) xs → filter p xs ≡ []
keeps_none p [] all = refl
keeps_none p (x ∷ xs) all = rw (All-head (λ y. p y ≡ false) x xs all) (keeps_none p xs (All-tail (λ y. p y ≡ false) x xs all))

-- a filter of a filter
pub filter_both : {X : Type 0} (p q : X → Bool) (xs : List X) → filter p (filter q xs) ≡ filter (λ x. q x && p x) xs
filter_both p q [] = refl
filter_both p q (x ∷ xs) = by (q x) (p x) refl refl (filter_both p q xs)
  where
    by : (a b : Bool) → q x ≡ a → p x ≡ b → filter p (filter q xs) ≡ filter (λ y. q y && p y) xs → filter p (filter q (x ∷ xs)) ≡ filter (λ y. q y && p y) (x ∷ xs)
    by false b e f rest = rw e rest
    by true true e f rest = rw (e, f) (ap (λ t. x ∷ t) rest)
    by true false e f rest = rw (e, f) rest

-- what is done at each number of a range
pub flat_map_alike : {A : Type 0} (f g : ℕ → List A) (a n : ℕ) → ((k : ℕ) → a ≤ k → k < a + n → f k ≡ g k) → flat_map f (range_with_len a n) ≡ flat_map g (range_with_len a n)
flat_map_alike f g a zero same = refl
flat_map_alike f g a (suc n) same =
    ap (λ t. t ++ flat_map f (range_with_len (a + 1) n)) (same a (omega arith) (omega arith))
    ∙ ap (λ t. g a ++ t) (flat_map_alike f g (a + 1) n (λ k low high. same k (omega (arith, low)) (omega (arith, high))))

abbrev is_number : {X : Type 0} → (X → ℕ) → ℕ → X → Bool
is_number n k x = nat_eq (n x) k

abbrev is_other : {X : Type 0} → (X → ℕ) → ℕ → X → Bool
is_other n k x = not (nat_eq (n x) k)

heads : {X : Type 0} (n : X → ℕ) (x : X) (xs : List X) → IsNonDecreasingBy n (x ∷ xs) → All (λ y. n x ≤ n y) xs
heads n x xs up = λ k d low. up 0 (suc k) d (omega arith) (omega (arith, low))

tails : {X : Type 0} (n : X → ℕ) (x : X) (xs : List X) → IsNonDecreasingBy n (x ∷ xs) → IsNonDecreasingBy n xs
tails n x xs up = λ i j d order low. up (suc i) (suc j) d (omega (arith, order)) (omega (arith, low))

-- the elements of the least number come first
least_first : {X : Type 0} (n : X → ℕ) (a : ℕ) (xs : List X) → IsNonDecreasingBy n xs → All (λ x. a ≤ n x) xs
    → xs ≡ filter (is_number n a) xs ++ filter (is_other n a) xs
least_first n a [] up all = refl
least_first n a (x ∷ xs) up all = by (nat_eq (n x) a) refl (least_first n a xs (tails n x xs up) (All-tail (λ y. a ≤ n y) x xs all))
  where
    by : (here : Bool) → nat_eq (n x) a ≡ here → xs ≡ filter (is_number n a) xs ++ filter (is_other n a) xs → x ∷ xs ≡ filter (is_number n a) (x ∷ xs) ++ filter (is_other n a) (x ∷ xs)
    by true e rest = rw e (ap (λ t. x ∷ t) rest)
    by false e rest =
        let most : a ≤ n x = All-head (λ y. a ≤ n y) x xs all in
        let above : a < n x = grind (arith, nat_tests, e, most) in
        let later : All (λ y. n x ≤ n y) xs = heads n x xs up in
        let none : All (λ y. is_number n a y ≡ false) xs = (λ k d low. let h = later k d low in grind (arith, nat_tests, h, above)) in
        let others : All (λ y. is_other n a y ≡ true) xs = (λ k d low. let h = later k d low in grind (arith, nat_tests, h, above)) in
        rw (e, keeps_none (is_number n a) xs none) (ap (λ t. x ∷ t) (sym (keeps_all (is_other n a) xs others)))

-- the elements of a greater number are kept by a filter that drops the least one
kept_above : {X : Type 0} (n : X → ℕ) (a k : ℕ) (xs : List X) → a < k → filter (is_number n k) (filter (is_other n a) xs) ≡ filter (is_number n k) xs
kept_above n a k [] low = refl
kept_above n a k (x ∷ xs) low = by (nat_eq (n x) a) (nat_eq (n x) k) refl refl (kept_above n a k xs low)
  where
    by : (here there : Bool) → nat_eq (n x) a ≡ here → nat_eq (n x) k ≡ there → filter (is_number n k) (filter (is_other n a) xs) ≡ filter (is_number n k) xs
        → filter (is_number n k) (filter (is_other n a) (x ∷ xs)) ≡ filter (is_number n k) (x ∷ xs)
    by true true e f rest = absurd (let g : n x ≡ a = grind (arith, nat_tests, e) in let h : n x ≡ k = grind (arith, nat_tests, f) in omega (arith, g, h, low))
    by true false e f rest = rw (e, f) rest
    by false true e f rest = rw (e, f) (ap (λ t. x ∷ t) rest)
    by false false e f rest = rw (e, f) rest

none_left : {X : Type 0} (n : X → ℕ) (a : ℕ) (xs : List X) → All (λ x. a ≤ n x) xs → All (λ x. n x < a + 0) xs → xs ≡ []
none_left n a [] low high = refl
none_left n a (x ∷ xs) low high = absurd (omega (arith, All-head (λ y. a ≤ n y) x xs low, All-head (λ y. n y < a + 0) x xs high))

others_above : {X : Type 0} (n : X → ℕ) (a : ℕ) (xs : List X) → All (λ x. a ≤ n x) xs → All (λ x. a + 1 ≤ n x) (filter (is_other n a) xs)
others_above n a [] all = All-nil (λ x. a + 1 ≤ n x)
others_above n a (x ∷ xs) all = by (nat_eq (n x) a) refl (others_above n a xs (All-tail (λ y. a ≤ n y) x xs all))
  where
    by : (here : Bool) → nat_eq (n x) a ≡ here → All (λ y. a + 1 ≤ n y) (filter (is_other n a) xs) → All (λ y. a + 1 ≤ n y) (filter (is_other n a) (x ∷ xs))
    by true e rest = rw e rest
    by false e rest =
        let most : a ≤ n x = All-head (λ y. a ≤ n y) x xs all in
        rw e (All-cons (λ y. a + 1 ≤ n y) x (filter (is_other n a) xs) (grind (arith, nat_tests, e, most)) rest)

pub by_number : {X : Type 0} (n : X → ℕ) (a m : ℕ) (xs : List X) → IsNonDecreasingBy n xs → All (λ x. a ≤ n x) xs → All (λ x. n x < a + m) xs
    → xs ≡ flat_map (λ k. filter (is_number n k) xs) (range_with_len a m)
by_number n a zero xs up low high = none_left n a xs low high
by_number n a (suc m) xs up low high =
    let rest = filter (is_other n a) xs in
    let below : All (λ x. n x < a + 1 + m) xs = (λ k d h. omega (arith, high k d h)) in
    let later = by_number n (a + 1) m rest (IsNonDecreasingBy-filter n (is_other n a) xs up) (others_above n a xs low) (All-filter (is_other n a) (λ x. n x < a + 1 + m) xs below) in
    let same = flat_map_alike (λ k. filter (is_number n k) rest) (λ k. filter (is_number n k) xs) (a + 1) m (λ k least most. kept_above n a k xs (omega (arith, least))) in
    least_first n a xs up low ∙ ap (λ t. filter (is_number n a) xs ++ t) (later ∙ same)

-- a list that is sorted by a test does not fall in a number of which the test tells, among elements of one kind
pub rising_in : {X : Type 0} (lt : X → X → Bool) (o : IsStrictWeakOrder lt) (n : X → ℕ) (P : X → Type 0) (xs : List X) → IsSortedBy lt xs → All P xs
    → ((x y : X) → P x → P y → lt y x ≡ false → n x ≤ n y) → IsNonDecreasingBy n xs
rising_in lt o n P xs up all tells =
    λ i j d order low. tells (slice_index_or xs i d) (slice_index_or xs j d) (All-get_or P xs i d (omega (arith, order, low)) all) (All-get_or P xs j d low all) (sorted_far lt o xs up i j d order low)
