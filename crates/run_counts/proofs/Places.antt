-- A list that lists numbers once, and the numbers of places: as many of them pass a test.
use Rattle.std.proofs.Common.{◌≡◌, ℕ, suc, ◌+◌, ◌<◌, Bool, true, false, cond, ◌&&◌, List, [], ◌∷◌, length, filter, count_by, eqb, refl, sym, ap, ap₂, ◌∙◌, Contains, arith}
use Rattle.std.specs.Prelude.{slice_index_or}
use Rattle.std.specs.List.{AllByRecursion, IsDistinct, range_with_len}
use Rattle.std.specs.Set.{is_member}
use Rattle.std.proofs.lemmas.Bool.Decides.{Decides-eqb, Decides-like, same_from_decides, nat_tests}
use Rattle.std.proofs.lemmas.Cmp.{nat_eq_equiv}
use Rattle.std.proofs.lemmas.List.Elements.{All-filter, All-from_recursion, recursion_from_All}
use Rattle.std.proofs.lemmas.List.FromFn.{get_or-range_with_len, length-range_with_len}
use Rattle.std.proofs.lemmas.List.Sums.{sum_by-cons}
use Rattle.std.proofs.lemmas.Map.Keys.{IsDistinct-from_apart}
use Rattle.std.proofs.lemmas.Map.Made.{alike_from_same, is_member-Decides, is_member-filter, length-from_same_keys}

length_cond : {X : Type 0} (b : Bool) (x : X) (xs : List X) → length (cond b (x ∷ xs) xs) ≡ cond b 1 0 + length xs
length_cond true x xs = omega arith
length_cond false x xs = omega arith

-- the places at which a list passes are as many as its elements that pass
pub places_pass : {X : Type 0} (P : X → Bool) (d : X) (xs : List X) (f : ℕ → Bool) (a : ℕ) → ((k : ℕ) → k < length xs → f (a + k) ≡ P (slice_index_or xs k d))
    → length (filter f (range_with_len a (length xs))) ≡ count_by P xs
places_pass P d [] f a each = refl
places_pass P d (x ∷ xs) f a each =
    let here : f a ≡ P x = ap f (omega arith) ∙ each 0 (omega arith) in
    let rest = places_pass P d xs f (a + 1) (λ k low. ap f (omega arith) ∙ each (suc k) (omega (arith, low))) in
    length_cond (f a) a (filter f (range_with_len (a + 1) (length xs)))
    ∙ ap₂ (λ (b : Bool) (n : ℕ). cond b 1 0 + n) here rest
    ∙ sym (sum_by-cons (λ y. cond (P y) 1 0) x xs)

-- what is distinct stays so in a filter
distinct_by : (b : Bool) (x : ℕ) (xs : List ℕ) → AllByRecursion (λ y. eqb x y ≡ false) xs → IsDistinct eqb xs → IsDistinct eqb (cond b (x ∷ xs) xs)
unfolding IsDistinct
distinct_by true x xs apart rest = (apart, rest)
distinct_by false x xs apart rest = rest

distinct_filter : (P : ℕ → Bool) (xs : List ℕ) → IsDistinct eqb xs → IsDistinct eqb (filter P xs)
unfolding IsDistinct
distinct_filter P [] h = tt
distinct_filter P (x ∷ xs) h =
    let Apart : ℕ → Type 0 = λ y. eqb x y ≡ false in
    distinct_by (P x) x (filter P xs) (recursion_from_All Apart (filter P xs) (All-filter P Apart xs (All-from_recursion Apart xs h.0))) (distinct_filter P xs h.1)

pub apart_test : (x y : ℕ) → (x ≡ y → ⊥) → eqb x y ≡ false
apart_test x y other = grind (arith, nat_tests, other)

places_distinct : (n : ℕ) → IsDistinct eqb (range_with_len 0 n)
places_distinct n =
    let many = length-range_with_len 0 n in
    IsDistinct-from_apart eqb (range_with_len 0 n)
    (λ i j d below within.
    let low : j < n = omega (arith, within, many) in
    let at_i = get_or-range_with_len 0 n i d (omega (arith, below, low)) in
    let at_j = get_or-range_with_len 0 n j d low in
    apart_test _ _ (λ e. omega (arith, e, at_i, at_j, below)))

place_within : (n q : ℕ) → Contains (range_with_len 0 n) q → q < n
place_within n q h =
    let many = length-range_with_len 0 n in
    let l = h.1 in
    let low : h.0 < n = omega (arith, l, many) in
    let at = get_or-range_with_len 0 n h.0 q low in
    let is = h.2 in
    omega (arith, low, at, is)

within_place : (n q : ℕ) → q < n → Contains (range_with_len 0 n) q
within_place n q low = (q, let many = length-range_with_len 0 n in omega (arith, low, many), get_or-range_with_len 0 n q q low ∙ omega arith)

-- numbers that are each listed once, and all below n: as many pass as below n
module _ (xs : List ℕ) (n : ℕ) (every : (q : ℕ) → q < n → Contains xs q) (within : (q : ℕ) → Contains xs q → q < n) (distinct : IsDistinct eqb xs) where
  member_same : (q : ℕ) → is_member eqb xs q ≡ is_member eqb (range_with_len 0 n) q
  member_same q =
      same_from_decides (is_member eqb xs q) (is_member eqb (range_with_len 0 n) q) (is_member-Decides Decides-eqb xs q)
      (Decides-like (is_member eqb (range_with_len 0 n) q) (λ h. every q (place_within n q h)) (λ h. within_place n q (within q h)) (is_member-Decides Decides-eqb (range_with_len 0 n) q))

  pub as_many_pass : (P : ℕ → Bool) → length (filter P xs) ≡ length (filter P (range_with_len 0 n))
  as_many_pass P =
      length-from_same_keys nat_eq_equiv (filter P xs) (filter P (range_with_len 0 n)) (distinct_filter P xs distinct) (distinct_filter P (range_with_len 0 n) (places_distinct n))
      (λ q.
      is_member-filter nat_eq_equiv P q (alike_from_same Decides-eqb P q) xs
      ∙ ap (λ (b : Bool). b && P q) (member_same q)
      ∙ sym (is_member-filter nat_eq_equiv P q (alike_from_same Decides-eqb P q) (range_with_len 0 n)))
