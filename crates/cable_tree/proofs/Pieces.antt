-- Each subtree stands in the frame order as one piece.
use Rattle.std.specs.Prelude.{◌≡◌, ℕ, suc, zero, ◌<◌, Option, Some, None, MatchOption, List, [], ◌∷◌, ◌++◌, length, take, drop, slice_index}
use Rattle.std.specs.List.{All}
use Rattle.std.proofs.Common.{arith, refl, sym, ap, ap₂, ◌∙◌, subst}
use Rattle.std.proofs.Math.Seq.{drop-append_seam, take-append_seam, get_or-append_seam}
use Rattle.std.proofs.lemmas.List.{append_assoc, append-nil, length-append}
use Rattle.cable_tree.specs.declared.port.Above.{Above}
use Rattle.cable_tree.specs.declared.port.Port.{Port}
use Rattle.cable_tree.specs.declared.port.Port.TheVariants.{P1, P2, P3}
use Rattle.cable_tree.specs.Row.{Row, IsRow, above}
use Rattle.cable_tree.specs.Segment.{IsTree, LeadsToRoot}
use Rattle.cable_tree.specs.FrameOrder.{child, behind, subtree, order, root}
use Rattle.cable_tree.proofs.Children.{child_is, root_of}
use Rattle.cable_tree.proofs.Levels.{subtree_is}
use Rattle.cable_tree.specs.Positions.{position_of}
use Rattle.cable_tree.proofs.Standing.{position_at}

record IsPiece (xs all : List ℕ) : Type 0 where
  front : List ℕ
  back : List ℕ
  joined : all ≡ front ++ (xs ++ back)

piece_of_piece : (xs ys all : List ℕ) → IsPiece xs ys → IsPiece ys all → IsPiece xs all
piece_of_piece xs ys all inner outer = record {
  front = outer.front ++ inner.front;
  back = inner.back ++ outer.back;
  joined =
      outer.joined
      ∙ ap (λ t. outer.front ++ t)
      (ap (λ t. t ++ outer.back) inner.joined ∙ append_assoc inner.front (xs ++ inner.back) outer.back ∙ ap (λ t. inner.front ++ t) (append_assoc xs inner.back outer.back))
      ∙ sym (append_assoc outer.front inner.front (xs ++ (inner.back ++ outer.back)));
}

module _ (rows : List Row) (tree : IsTree rows) where
  -- what hangs at a port is a piece of the subtree
  port_piece : (r : ℕ) → r < length rows → (p : Port) → IsPiece (behind (subtree rows) (child rows r p)) (subtree rows r)
  port_piece r within P3 =
      let a = behind (subtree rows) (child rows r P3) in
      let b = behind (subtree rows) (child rows r P1) in
      let c = behind (subtree rows) (child rows r P2) in
      record { front = r ∷ []; back = b ++ c; joined = subtree_is rows tree r within ∙ ap (λ t. r ∷ t) (append_assoc a b c) }
  port_piece r within P1 =
      let a = behind (subtree rows) (child rows r P3) in
      let b = behind (subtree rows) (child rows r P1) in
      let c = behind (subtree rows) (child rows r P2) in
      record { front = r ∷ a; back = c; joined = subtree_is rows tree r within ∙ ap (λ t. r ∷ t) (append_assoc a b c) }
  port_piece r within P2 =
      let a = behind (subtree rows) (child rows r P3) in
      let b = behind (subtree rows) (child rows r P1) in
      let c = behind (subtree rows) (child rows r P2) in
      record { front = r ∷ (a ++ b); back = []; joined = subtree_is rows tree r within ∙ ap (λ t. r ∷ ((a ++ b) ++ t)) (sym (append-nil c)) }

  child_piece : (r : ℕ) → r < length rows → (p : Port) (k : ℕ) → child rows r p ≡ Some k → IsPiece (subtree rows k) (subtree rows r)
  child_piece r within p k e = subst (λ o. IsPiece (behind (subtree rows) o) (subtree rows r)) e (port_piece r within p)

  inside_at : (s r : ℕ) (o : Option Above) → above rows r ≡ o → r < length rows → ((q : ℕ) → q < length rows → LeadsToRoot rows s q → IsPiece (subtree rows q) (order rows))
      → MatchOption o (Unit {0}) (λ a. LeadsToRoot rows s a.row) → IsPiece (subtree rows r) (order rows)
  inside_at s r None e within higher leads =
      let top = root_of rows tree in
      let same : root rows ≡ r = tree.one_root (root rows) r top.0 within top.1 e in
      subst (λ q. IsPiece (subtree rows q) (order rows)) same (record { front = []; back = []; joined = sym (append-nil (order rows)) })
  inside_at s r (Some a) e within higher leads =
      let parent = tree.parents r a within e in
      piece_of_piece (subtree rows r) (subtree rows a.row) (order rows)
      (child_piece a.row parent a.port r (child_is rows tree a.row a.port r within e)) (higher a.row parent leads)

  inside : (s r : ℕ) → r < length rows → LeadsToRoot rows s r → IsPiece (subtree rows r) (order rows)
  unfolding LeadsToRoot
  inside zero r within leads = absurd leads
  inside (suc s) r within leads = inside_at s r (above rows r) refl within (inside s) leads

  module _ (slaves : All IsRow rows) where
    -- it begins at the position of its slave
    begins : (r : ℕ) → r < length rows → (front back : List ℕ) → order rows ≡ front ++ (subtree rows r ++ back) → position_of rows r ≡ length front
    begins r within front back joined =
        let below = behind (subtree rows) (child rows r P3) ++ behind (subtree rows) (child rows r P1) ++ behind (subtree rows) (child rows r P2) in
        let parts : order rows ≡ front ++ (r ∷ (below ++ back)) = joined ∙ ap (λ t. front ++ (t ++ back)) (subtree_is rows tree r within) in
        let here : slice_index (order rows) (length front) ≡ r = ap (λ (t : List ℕ). slice_index t (length front)) parts ∙ get_or-append_seam front r (below ++ back) 0 in
        let count = ap length parts ∙ length-append front (r ∷ (below ++ back)) in
        ap (position_of rows) (sym here) ∙ position_at rows tree slaves (length front) (omega (arith, count))

    pub stands_together : (r : ℕ) → r < length rows → take (length (subtree rows r)) (drop (position_of rows r) (order rows)) ≡ subtree rows r
    stands_together r within =
        let p = inside (length rows) r within (tree.leads r within) in
        let s = subtree rows r in
        ap₂ (λ n (t : List ℕ). take (length s) (drop n t)) (begins r within p.front p.back p.joined) p.joined
        ∙ ap (take (length s)) (drop-append_seam p.front (s ++ p.back)) ∙ take-append_seam s p.back
