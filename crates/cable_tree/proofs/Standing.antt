-- Where the rows stand in the frame order.
use Rattle.std.specs.Prelude.{◌≡◌, ℕ, suc, ◌+◌, ◌<◌, eqb, List, [], ◌∷◌, ◌++◌, length, slice_index}
use Rattle.std.specs.List.{All}
use Rattle.std.proofs.Common.{arith, refl, sym, ap, ◌∙◌, subst}
use Rattle.std.proofs.lemmas.Bool.{ne_eqb, eq-eqb}
use Rattle.std.proofs.lemmas.List.Sums.{position_or_len_is}
use Rattle.cable_tree.specs.Row.{Row, IsRow}
use Rattle.cable_tree.specs.Segment.{IsTree}
use Rattle.cable_tree.specs.FrameOrder.{order}
use Rattle.cable_tree.proofs.Rising.{order_once}
use Rattle.cable_tree.proofs.Members.{place_of, order_whole}
use Rattle.cable_tree.specs.Positions.{position_of}

module _ (rows : List Row) where
  -- the rows of a list have one position after another, from this one on
  unfoldable pub Stands : ℕ → List ℕ → Type 0
  Stands q [] = Unit {0}
  Stands q (r ∷ rs) = (position_of rows r ≡ q) × Stands (suc q) rs

  pub stands_first : (q r : ℕ) (rs : List ℕ) → Stands q (r ∷ rs) → position_of rows r ≡ q
  unfolding Stands
  stands_first q r rs h = h.0

  pub stands_later : (q r : ℕ) (rs : List ℕ) → Stands q (r ∷ rs) → Stands (suc q) rs
  unfolding Stands
  stands_later q r rs h = h.1

  pub stands_front : (q : ℕ) (xs ys : List ℕ) → Stands q (xs ++ ys) → Stands q xs
  unfolding Stands
  stands_front q [] ys h = tt
  stands_front q (x ∷ xs) ys h = (h.0, stands_front (suc q) xs ys h.1)

  pub stands_behind : (q : ℕ) (xs ys : List ℕ) → Stands q (xs ++ ys) → Stands (q + length xs) ys
  unfolding Stands
  stands_behind q [] ys h = let e : q ≡ q + 0 = omega arith in subst (λ n. Stands n ys) e h
  stands_behind q (x ∷ xs) ys h =
      let e : suc q + length xs ≡ q + length (x ∷ xs) = omega arith in
      subst (λ n. Stands n ys) e (stands_behind (suc q) xs ys h.1)

  stands_from : (q : ℕ) (xs : List ℕ) → ((i : ℕ) → i < length xs → position_of rows (slice_index xs i) ≡ q + i) → Stands q xs
  unfolding Stands
  stands_from q [] h = tt
  stands_from q (x ∷ xs) h =
      let first = h 0 (omega arith) in
      (omega (arith, first), stands_from (suc q) xs (λ i less. let later = h (suc i) (omega arith) in omega (arith, later)))

  module _ (tree : IsTree rows) (slaves : All IsRow rows) where
    pub position_at : (i : ℕ) → i < length (order rows) → position_of rows (slice_index (order rows) i) ≡ i
    unfolding position_of
    position_at i within =
        let r = slice_index (order rows) i in
        position_or_len_is (λ q. eqb q r) (order rows) i 0 (omega arith)
        (λ k less. ne_eqb (slice_index (order rows) k) r (order_once rows tree slaves k i less within))
        (λ _. eq-eqb r r refl)

    pub position_within : (r : ℕ) → r < length rows → position_of rows r < length (order rows)
    position_within r within =
        let place = place_of rows tree r within in
        let is : position_of rows r ≡ place.0 = ap (position_of rows) (sym place.2) ∙ position_at place.0 place.1 in
        let less = place.1 in
        omega arith

    pub row_within : (r : ℕ) → r < length rows → position_of rows r < length rows
    row_within r within = let whole = order_whole rows tree slaves in let less = position_within r within in omega arith

    pub order_at : (r : ℕ) → r < length rows → slice_index (order rows) (position_of rows r) ≡ r
    order_at r within =
        let place = place_of rows tree r within in
        let is : position_of rows r ≡ place.0 = ap (position_of rows) (sym place.2) ∙ position_at place.0 place.1 in
        ap (slice_index (order rows)) is ∙ place.2

    -- so does the frame order
    pub order_stands : Stands 0 (order rows)
    order_stands = stands_from 0 (order rows) (λ i within. let is = position_at i within in omega (arith, is))
