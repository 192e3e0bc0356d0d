-- Lists that are made piece by piece.
use Rattle.std.proofs.Common.{◌≡◌, ℕ, zero, suc, ◌+◌, ◌-◌, ◌≤◌, List, [], ◌∷◌, ◌++◌, length, sym, ap, subst, ◌∙◌, append_assoc, arith}
use Rattle.std.specs.List.{All, flat_map, range_with_len}
use Rattle.std.specs.List.Sorted.{IsNonDecreasingBy}
use Rattle.std.proofs.lemmas.Grind.{flat_map-append}
use Rattle.std.proofs.lemmas.List.{append-nil}
use Rattle.std.proofs.lemmas.List.Elements.{All-head, All-push, All-tail}
use Rattle.std.proofs.lemmas.List.Sorted.{IsNonDecreasingBy-push}

-- one number more
pub range_up : (a n : ℕ) → range_with_len a (suc n) ≡ range_with_len a n ++ (a + n) ∷ []
range_up a zero = let h : a ≡ a + 0 = omega arith in ap (λ x. x ∷ []) h
range_up a (suc n) = let h : a + 1 + n ≡ a + suc n = omega arith in ap (λ t. a ∷ t) (range_up (a + 1) n ∙ ap (λ x. range_with_len (a + 1) n ++ x ∷ []) h)

-- one piece more
pub flat_more : {A : Type 0} (f : ℕ → List A) (n : ℕ) → flat_map f (range_with_len 0 (suc n)) ≡ flat_map f (range_with_len 0 n) ++ f n
flat_more f n =
    let none : 0 + n ≡ n = omega arith in
    ap (flat_map f) (range_up 0 n) ∙ flat_map-append f (range_with_len 0 n) ((0 + n) ∷ []) ∙ ap (λ xs. flat_map f (range_with_len 0 n) ++ xs) (append-nil (f (0 + n)))
    ∙ ap (λ k. flat_map f (range_with_len 0 n) ++ f k) none

-- elements of one number behind elements of lower ones
pub sorted_behind : {X : Type 0} (n : X → ℕ) (a : ℕ) (xs ys : List X) → IsNonDecreasingBy n xs → All (λ x. n x ≤ a) xs → All (λ x. n x ≡ a) ys → IsNonDecreasingBy n (xs ++ ys)
sorted_behind n a xs [] up low same = subst (IsNonDecreasingBy n) (sym (append-nil xs)) up
sorted_behind n a xs (y ∷ ys) up low same =
    let here : n y ≡ a = All-head (λ x. n x ≡ a) y ys same in
    subst (IsNonDecreasingBy n) (append_assoc xs (y ∷ []) ys)
    (sorted_behind n a (xs ++ y ∷ []) ys
    (IsNonDecreasingBy-push n xs y up (λ d some. let last = low (length xs - 1) d (omega (arith, some)) in omega (arith, last, here)))
    (All-push (λ x. n x ≤ a) xs y low (omega (arith, here)))
    (All-tail (λ x. n x ≡ a) y ys same))
