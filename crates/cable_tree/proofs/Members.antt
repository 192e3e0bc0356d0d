-- Every row is in the frame order, between its parent and its children.
use Rattle.std.proofs.Common.{◌≡◌, ℕ, suc, zero, ◌+◌, ◌<◌, ◌≤◌, Option, Some, None, List, [], ◌∷◌, ◌++◌, length, get_or, arith, refl, sym, ap, ◌∙◌, subst, ◌⊎◌, inl, inr}
use Rattle.std.specs.Prelude.{MatchOption}
use Rattle.std.proofs.lemmas.Bool.{cases_lt}
use Rattle.std.specs.Cmp.{nat_eq_equiv}
use Rattle.std.proofs.lemmas.Grind.{get_or_default_zero}
use Rattle.std.proofs.lemmas.List.Elements.{Contains-append_left, Contains-append_right, Contains-append_cases}
use Rattle.std.proofs.lemmas.Map.Steps.{le-length_from_below}
use Rattle.std.proofs.lemmas.Map.Views.{list_any-from_Contains}
use Rattle.std.specs.List.{All, Contains}
use Rattle.cable_tree.specs.declared.port.Above.{Above}
use Rattle.cable_tree.specs.declared.port.Port.{Port}
use Rattle.cable_tree.specs.declared.port.Port.TheVariants.{P1, P2, P3}
use Rattle.cable_tree.specs.Row.{Row, IsRow, above, cable}
use Rattle.cable_tree.specs.Segment.{IsTree, LeadsToRoot}
use Rattle.cable_tree.specs.FrameOrder.{child, behind, subtree, order, root}
use Rattle.cable_tree.specs.PathSums.{arrive, round_trip, span}
use Rattle.cable_tree.proofs.Children.{child_hangs, child_is, root_of}
use Rattle.cable_tree.proofs.Levels.{tree_induction, subtree_is, arrive_at_child}
use Rattle.cable_tree.proofs.Rising.{order_pair, order_within, order_inside, order_few, tp_some}

head : (x : ℕ) (xs : List ℕ) → Contains (x ∷ xs) x
head x xs = (0, omega arith, refl)

alone : (x y : ℕ) → Contains (x ∷ []) y → x ≡ y
alone x y h = at_zero h.0 h.1 h.2
  where
    at_zero : (k : ℕ) → k < 1 → get_or (x ∷ []) k y ≡ y → x ≡ y
    at_zero zero less e = e
    at_zero (suc k) less e = absurd (omega arith)

cases : (x : ℕ) (xs : List ℕ) (y : ℕ) → Contains (x ∷ xs) y → (x ≡ y) ⊎ Contains xs y
cases x xs y h = elim (Contains-append_cases (x ∷ []) xs y h) [ inl a ↦ inl (alone x y a) | inr b ↦ inr b ]

tail : (x : ℕ) (xs : List ℕ) (y : ℕ) → Contains xs y → Contains (x ∷ xs) y
tail x xs y h = Contains-append_right (x ∷ []) xs y h

module _ (rows : List Row) where
  behind_has : (o : Option ℕ) (k x : ℕ) → o ≡ Some k → Contains (subtree rows k) x → Contains (behind (subtree rows) o) x
  behind_has o k x e h = rw e h

  behind_whose : (o : Option ℕ) (x : ℕ) → Contains (behind (subtree rows) o) x → (k : ℕ) × (o ≡ Some k) × Contains (subtree rows k) x
  behind_whose None x h = absurd (let less = h.1 in omega arith)
  behind_whose (Some k) x h = (k, refl, h)

  abbrev below : ℕ → List ℕ
  below r = behind (subtree rows) (child rows r P3) ++ behind (subtree rows) (child rows r P1) ++ behind (subtree rows) (child rows r P2)

  -- a row is below another where it is in the subtree of a child
  below_has : (r : ℕ) (p : Port) (k x : ℕ) → child rows r p ≡ Some k → Contains (subtree rows k) x → Contains (below r) x
  below_has r P3 k x e h =
      Contains-append_left (behind (subtree rows) (child rows r P3) ++ behind (subtree rows) (child rows r P1)) (behind (subtree rows) (child rows r P2)) x
      (Contains-append_left (behind (subtree rows) (child rows r P3)) (behind (subtree rows) (child rows r P1)) x (behind_has (child rows r P3) k x e h))
  below_has r P1 k x e h =
      Contains-append_left (behind (subtree rows) (child rows r P3) ++ behind (subtree rows) (child rows r P1)) (behind (subtree rows) (child rows r P2)) x
      (Contains-append_right (behind (subtree rows) (child rows r P3)) (behind (subtree rows) (child rows r P1)) x (behind_has (child rows r P1) k x e h))
  below_has r P2 k x e h =
      Contains-append_right (behind (subtree rows) (child rows r P3) ++ behind (subtree rows) (child rows r P1)) (behind (subtree rows) (child rows r P2)) x
      (behind_has (child rows r P2) k x e h)

  abbrev IsBelow : ℕ → ℕ → Type 0
  IsBelow r x = (p : Port) × (k : ℕ) × (child rows r p ≡ Some k) × Contains (subtree rows k) x

  at_port : (r : ℕ) (p : Port) (x : ℕ) → Contains (behind (subtree rows) (child rows r p)) x → IsBelow r x
  at_port r p x h = let whose = behind_whose (child rows r p) x h in (p, whose.0, whose.1, whose.2)

  below_whose : (r x : ℕ) → Contains (below r) x → IsBelow r x
  below_whose r x h =
      elim (Contains-append_cases (behind (subtree rows) (child rows r P3) ++ behind (subtree rows) (child rows r P1)) (behind (subtree rows) (child rows r P2)) x h) [
        | inl front ↦ elim (Contains-append_cases (behind (subtree rows) (child rows r P3)) (behind (subtree rows) (child rows r P1)) x front) [
          | inl three ↦ at_port r P3 x three
          | inr one ↦ at_port r P1 x one
        ]
        | inr two ↦ at_port r P2 x two
      ]

  module _ (tree : IsTree rows) where
    itself : (r : ℕ) → r < length rows → Contains (subtree rows r) r
    itself r within = rw (subtree_is rows tree r within) (head r (below r))

    abbrev IsClosed : ℕ → Type 0
    IsClosed r = (x : ℕ) → Contains (subtree rows r) x → (p : Port) (k : ℕ) → child rows x p ≡ Some k → Contains (subtree rows r) k

    closed_step : (r : ℕ) → r < length rows → ((p : Port) (k : ℕ) → child rows r p ≡ Some k → IsClosed k) → IsClosed r
    closed_step r within children = λ x h p k e.
        let is = subtree_is rows tree r within in
        let parts : Contains (r ∷ below r) x = rw is at h in
        let in' : Contains (below r) k =
        elim (cases r (below r) x parts) [
          | inl same ↦ below_has r p k k (rw same e) (itself k (child_hangs rows x p k e).0)
          | inr deeper ↦
              let whose = below_whose r x deeper in
              below_has r whose.0 whose.1 k whose.2 (children whose.0 whose.1 whose.2 x whose.3 p k e)
        ] in
        rw is (tail r (below r) k in')

    -- the children of a row stand in each subtree that has the row
    closed : (r : ℕ) → r < length rows → IsClosed r
    closed = tree_induction rows tree IsClosed closed_step

    met_at : (s r : ℕ) (o : Option Above) → above rows r ≡ o → r < length rows → ((q : ℕ) → q < length rows → LeadsToRoot rows s q → Contains (order rows) q)
        → MatchOption o (Unit {0}) (λ a. LeadsToRoot rows s a.row) → Contains (order rows) r
    met_at s r None e within before h =
        let top = root_of rows tree in
        let same : root rows ≡ r = tree.one_root (root rows) r top.0 within top.1 e in
        subst (λ x. Contains (order rows) x) same (itself (root rows) top.0)
    met_at s r (Some a) e within before h =
        let parent = tree.parents r a within e in
        closed (root rows) (root_of rows tree).0 a.row (before a.row parent h) a.port r (child_is rows tree a.row a.port r within e)

    met : (s r : ℕ) → r < length rows → LeadsToRoot rows s r → Contains (order rows) r
    unfolding LeadsToRoot
    met zero r within h = absurd h
    met (suc s) r within h = met_at s r (above rows r) refl within (met s) h

    -- every row is in the frame order
    pub every_row : (r : ℕ) → r < length rows → Contains (order rows) r
    every_row r within = met (length rows) r within (tree.leads r within)

    pub place_of : (r : ℕ) → r < length rows → (i : ℕ) × (i < length (order rows)) × (get_or (order rows) i 0 ≡ r)
    place_of r within = let at = every_row r within in (at.0, at.1, sym (get_or_default_zero (order rows) at.0 r at.1) ∙ at.2)

    -- the first is the root
    pub order_first : get_or (order rows) 0 0 ≡ root rows
    order_first = ap (λ (xs : List ℕ). get_or xs 0 0) (subtree_is rows tree (root rows) (root_of rows tree).0)

    module _ (slaves : All IsRow rows) where
      -- each slave is left before the frame leaves the root
      pub inside : (r : ℕ) → r < length rows → arrive rows r + span rows r + cable rows (root rows) ≤ round_trip rows
      inside r within =
          let place = place_of r within in
          let there = order_inside rows tree slaves place.0 place.1 in
          let a = ap (arrive rows) place.2 in
          let s = ap (span rows) place.2 in
          omega arith

      -- the frame order is as long as the list of the rows
      pub order_whole : length (order rows) ≡ length rows
      order_whole =
          let few = order_few rows tree slaves in
          let all = le-length_from_below (order rows) (length rows) (λ q less. list_any-from_Contains nat_eq_equiv q (order rows) (every_row q less)) in
          omega arith

      -- where one row arrives before another, it stands before it
      sooner : (i j : ℕ) → i < length (order rows) → arrive rows (get_or (order rows) i 0) < arrive rows (get_or (order rows) j 0) → i < j
      sooner i j within less =
          elim (cases_lt i j) [
            | inl lt ↦ lt
            | inr le ↦ absurd (not_later i j within less le)
          ]
        where
          not_later : (i j : ℕ) → i < length (order rows) → arrive rows (get_or (order rows) i 0) < arrive rows (get_or (order rows) j 0) → j ≤ i → ⊥
          not_later i j within less le =
              elim (cases_lt j i) [
                | inl lt ↦ let rise = order_pair rows tree slaves j i lt within in omega arith
                | inr ge ↦ let same : i ≡ j = omega arith in let e = ap (λ x. arrive rows (get_or (order rows) x 0)) same in omega arith
              ]

      later_than : (r : ℕ) (p : Port) (k : ℕ) → r < length rows → child rows r p ≡ Some k → arrive rows r < arrive rows k
      later_than r p k within e =
          let is = arrive_at_child rows tree r p k e in
          let some = tp_some rows tree slaves r within in
          omega arith

      -- a child stands after its parent
      pub child_after : (i : ℕ) (p : Port) (k : ℕ) → i < length (order rows) → child rows (get_or (order rows) i 0) p ≡ Some k →
          (j : ℕ) × (i < j) × (j < length (order rows)) × (get_or (order rows) j 0 ≡ k)
      child_after i p k within e =
          let r = get_or (order rows) i 0 in
          let place = place_of k (child_hangs rows r p k e).0 in
          let later = later_than r p k (order_within rows tree slaves i within) e in
          let met' = ap (arrive rows) place.2 in
          (place.0, sooner i place.0 within (omega arith), place.1, place.2)

      -- and a parent before its child
      pub parent_before : (i : ℕ) (a : Above) → i < length (order rows) → above rows (get_or (order rows) i 0) ≡ Some a →
          (j : ℕ) × (j < i) × (get_or (order rows) j 0 ≡ a.row)
      parent_before i a within e =
          let r = get_or (order rows) i 0 in
          let inside = order_within rows tree slaves i within in
          let parent = tree.parents r a inside e in
          let place = place_of a.row parent in
          let later = later_than a.row a.port r parent (child_is rows tree a.row a.port r inside e) in
          let met' = ap (arrive rows) place.2 in
          (place.0, sooner place.0 i place.1 (omega arith), place.2)
