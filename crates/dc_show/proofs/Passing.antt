-- The first element that passes a test.
use Rattle.std.proofs.Common.{◌≡◌, ◌∙◌, sym, ap, ℕ, suc, ◌+◌, ◌<◌, ◌≤◌, nat_lt, Bool, true, false, cond, List, [], ◌∷◌, ◌++◌, length, take, drop, get_or, refl, Some, None, inl, inr, arith}
use Rattle.std.proofs.lemmas.Bool.{cases_lt, cases_Bool}
use Rattle.std.proofs.lemmas.Bool.Decides.{nat_tests}
use Rattle.std.proofs.lemmas.List.{take-append-drop, drop_more}
use Rattle.std.proofs.lemmas.List.Sums.{passes_at_first}
use Rattle.std.proofs.lemmas.Option.{none-some}
use Rattle.std.specs.List.{position, position_or_len}

place_none : (a b : ℕ) → cond (nat_lt a b) (Some a) None ≡ None → b ≤ a
place_none a b e =
    elim (cases_lt a b) [
      | inl less ↦ let some : cond (nat_lt a b) (Some a) None ≡ Some a = grind (arith, nat_tests) in absurd (none-some a (sym e ∙ some))
      | inr more ↦ more
    ]

none_place : (a b : ℕ) → b ≤ a → cond (nat_lt a b) (Some a) None ≡ None
none_place a b more = grind (arith, nat_tests)

place_some : (a b n : ℕ) → cond (nat_lt a b) (Some a) None ≡ Some n → (n ≡ a) × (a < b)
place_some a b n e =
    elim (cases_lt a b) [
      | inl less ↦ let some : cond (nat_lt a b) (Some a) None ≡ Some a = grind (arith, nat_tests) in (same n a (sym e ∙ some), less)
      | inr more ↦ absurd (none-some n (sym (none_place a b more) ∙ e))
    ]
  where
    same : (i j : ℕ) → Some i ≡ Some j → i ≡ j
    same i j p = cc

module _ {X : Type 0} (p : X → Bool) where
  at_true : (x : X) (xs : List X) → p x ≡ true → position_or_len p (x ∷ xs) ≡ 0
  at_true x xs e = rw e refl

  at_false : (x : X) (xs : List X) → p x ≡ false → position_or_len p (x ∷ xs) ≡ 1 + position_or_len p xs
  at_false x xs e = rw e refl

  -- where none passes, the first does not, and none behind it
  pub none_parts : (x : X) (xs : List X) → position p (x ∷ xs) ≡ None → (p x ≡ false) × (position p xs ≡ None)
  none_parts x xs e =
      let far = place_none (position_or_len p (x ∷ xs)) (length (x ∷ xs)) e in
      elim (cases_Bool (p x)) [
        | inl passing ↦ let first = at_true x xs passing in absurd (omega arith)
        | inr failing ↦ let first = at_false x xs failing in (failing, none_place (position_or_len p xs) (length xs) (omega arith))
      ]

  pub none_cons : (x : X) (xs : List X) → p x ≡ false → position p xs ≡ None → position p (x ∷ xs) ≡ None
  none_cons x xs failing e =
      let far = place_none (position_or_len p xs) (length xs) e in
      let first = at_false x xs failing in
      none_place (position_or_len p (x ∷ xs)) (length (x ∷ xs)) (omega arith)

  -- none of those before the first passes
  none_before : (xs : List X) → position p (take (position_or_len p xs) xs) ≡ None
  none_before [] = refl
  none_before (x ∷ xs) =
      elim (cases_Bool (p x)) [
        | inl passing ↦ ap (λ n. position p (take n (x ∷ xs))) (at_true x xs passing)
        | inr failing ↦
            let first = at_false x xs failing in
            let next : position_or_len p (x ∷ xs) ≡ suc (position_or_len p xs) = omega arith in
            ap (λ n. position p (take n (x ∷ xs))) next ∙ none_cons x (take (position_or_len p xs) xs) failing (none_before xs)
      ]

  -- the first that passes, between those before and behind
  pub first_parts : (xs : List X) (n : ℕ) (d : X) → position p xs ≡ Some n → (position p (take n xs) ≡ None) × (xs ≡ take n xs ++ get_or xs n d ∷ drop (n + 1) xs) × (p (get_or xs n d) ≡ true)
  first_parts xs n d e =
      let at = place_some (position_or_len p xs) (length xs) n e in
      rw at.0 (none_before xs, sym (take-append-drop (position_or_len p xs) xs) ∙ ap (λ t. take (position_or_len p xs) xs ++ t) (drop_more xs (position_or_len p xs) d at.1), passes_at_first p xs d at.1)
