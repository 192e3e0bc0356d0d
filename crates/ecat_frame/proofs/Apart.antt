-- Lists side by side, up to the first place at which they differ.
use Rattle.std.proofs.Common.{◌≡◌, ◌∙◌, sym, ap, ℕ, ◌+◌, cond, List, [], ◌∷◌, ◌++◌, length, Option, Some, None, option_map, refl, inl, inr, arith}
use Rattle.std.proofs.lemmas.Bool.{cases_eq, eq-eqb, ne_eqb}
use Rattle.std.proofs.lemmas.Option.{none-some}
use Rattle.ecat_frame.specs.Difference.{first_apart}

-- a place so many bytes further
abbrev pub ahead : ℕ → Option ℕ → Option ℕ
ahead n o = option_map (λ i. n + i) o

ahead_one : (n : ℕ) (o : Option ℕ) → option_map (λ i. i + 1) (ahead n o) ≡ ahead (n + 1) o
ahead_one n (Some i) = ap Some (omega arith)
ahead_one n None = refl

ahead_zero : (o : Option ℕ) → o ≡ ahead 0 o
ahead_zero (Some i) = ap Some (omega arith)
ahead_zero None = refl

pub ahead_twice : (n m : ℕ) (o : Option ℕ) → ahead n (ahead m o) ≡ ahead (n + m) o
ahead_twice n m (Some i) = ap Some (omega arith)
ahead_twice n m None = refl

apart_same_head : (x : ℕ) (xs ys : List ℕ) → first_apart (x ∷ xs) (x ∷ ys) ≡ option_map (λ n. n + 1) (first_apart xs ys)
apart_same_head x xs ys = rw (eq-eqb x x refl) refl

pub apart_first : (x y : ℕ) (xs ys : List ℕ) → (x ≡ y → ⊥) → first_apart (x ∷ xs) (y ∷ ys) ≡ Some 0
apart_first x y xs ys other = ap (λ b. cond b (option_map (λ n. n + 1) (first_apart xs ys)) (Some 0)) (ne_eqb x y other)

-- behind what is the same in both
pub apart_behind : (xs us vs : List ℕ) → first_apart (xs ++ us) (xs ++ vs) ≡ ahead (length xs) (first_apart us vs)
apart_behind [] us vs = ahead_zero (first_apart us vs)
apart_behind (x ∷ xs) us vs =
    apart_same_head x (xs ++ us) (xs ++ vs)
    ∙ ap (option_map (λ n. n + 1)) (apart_behind xs us vs)
    ∙ ahead_one (length xs) (first_apart us vs)
    ∙ ap (λ n. ahead n (first_apart us vs)) (omega arith)

pub apart_same : (xs : List ℕ) → first_apart xs xs ≡ None
apart_same [] = refl
apart_same (x ∷ xs) = apart_same_head x xs xs ∙ ap (option_map (λ n. n + 1)) (apart_same xs)

raised_none : (o : Option ℕ) → option_map (λ n. n + 1) o ≡ None → o ≡ None
raised_none (Some i) e = cc
raised_none None e = refl

-- nowhere apart
pub apart_none : (xs ys : List ℕ) → first_apart xs ys ≡ None → xs ≡ ys
apart_none [] [] e = refl
apart_none [] (y ∷ ys) e = cc
apart_none (x ∷ xs) [] e = cc
apart_none (x ∷ xs) (y ∷ ys) e =
    elim (cases_eq x y) [
      | inl same ↦
          let rest : option_map (λ n. n + 1) (first_apart xs ys) ≡ None = sym (ap (λ b. cond b (option_map (λ n. n + 1) (first_apart xs ys)) (Some 0)) (eq-eqb x y same)) ∙ e in
          cons_path x y xs ys same (apart_none xs ys (raised_none (first_apart xs ys) rest))
      | inr other ↦ absurd (none-some 0 (sym e ∙ ap (λ b. cond b (option_map (λ n. n + 1) (first_apart xs ys)) (Some 0)) (ne_eqb x y other)))
    ]
  where
    cons_path : (a b : ℕ) (us vs : List ℕ) → a ≡ b → us ≡ vs → a ∷ us ≡ b ∷ vs
    cons_path a b us vs p q = cc

-- what stands behind does not count
pub apart_before : (xs ys us vs : List ℕ) (n : ℕ) → length xs ≡ length ys → first_apart xs ys ≡ Some n → first_apart (xs ++ us) (ys ++ vs) ≡ Some n
apart_before [] [] us vs n long e = cc
apart_before [] (y ∷ ys) us vs n long e = absurd (omega arith)
apart_before (x ∷ xs) [] us vs n long e = absurd (omega arith)
apart_before (x ∷ xs) (y ∷ ys) us vs n long e =
    elim (cases_eq x y) [
      | inl same ↦
          let rest : option_map (λ m. m + 1) (first_apart xs ys) ≡ Some n = sym (ap (λ b. cond b (option_map (λ m. m + 1) (first_apart xs ys)) (Some 0)) (eq-eqb x y same)) ∙ e in
          let inner = raised_some (first_apart xs ys) n rest in
          ap (λ b. cond b (option_map (λ m. m + 1) (first_apart (xs ++ us) (ys ++ vs))) (Some 0)) (eq-eqb x y same)
          ∙ ap (option_map (λ m. m + 1)) (apart_before xs ys us vs inner.0 (omega arith) inner.1.0)
          ∙ ap Some inner.1.1
      | inr other ↦
          ap (λ b. cond b (option_map (λ m. m + 1) (first_apart (xs ++ us) (ys ++ vs))) (Some 0)) (ne_eqb x y other)
          ∙ sym (ap (λ b. cond b (option_map (λ m. m + 1) (first_apart xs ys)) (Some 0)) (ne_eqb x y other))
          ∙ e
    ]
  where
    raised_some : (o : Option ℕ) (m : ℕ) → option_map (λ i. i + 1) o ≡ Some m → (j : ℕ) × ((o ≡ Some j) × (j + 1 ≡ m))
    raised_some (Some i) m h = (i, (refl, cc))
    raised_some None m h = cc
