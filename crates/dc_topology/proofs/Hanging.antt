-- What hangs below a slave, as its statuses list it.
use Rattle.std.specs.Prelude.{◌≡◌, ℕ, suc, ◌+◌, ◌<◌, Bool, Option, Some, None, List, [], ◌∷◌, ◌++◌, length, map, if◌then◌else◌}
use Rattle.std.specs.Option.{is_some}
use Rattle.std.specs.List.{All}
use Rattle.std.proofs.Common.{arith, refl, sym, ap, ap₂, ◌∙◌, subst}
use Rattle.std.proofs.lemmas.List.{append_assoc, append-nil, map-append, length-map, length-append}
use Rattle.cable_tree.specs.declared.port.Port.{Port}
use Rattle.cable_tree.specs.declared.port.Port.TheVariants.{P1, P2, P3}
use Rattle.cable_tree.specs.Row.{Row, IsRow}
use Rattle.cable_tree.specs.Segment.{IsTree}
use Rattle.cable_tree.specs.FrameOrder.{child, behind, subtree, order, root}
use Rattle.cable_tree.proofs.Exported.{at_spot, child_hangs, root_of, tree_induction, subtree_is, Stands, stands_first, stands_later, stands_front, stands_behind, order_stands}
use Rattle.dc_topology.specs.Listed.{Place, place_at, places, Hangs, Lists, nothing, slave}
use Rattle.dc_topology.specs.Status.{status_of}
use Rattle.cable_tree.specs.Positions.{position_of, by_position, placed}
use Rattle.dc_topology.proofs.Bits.{formed, connected}

-- the place that a child takes
abbrev taken_at : ℕ → Port → Option ℕ → List Place
taken_at q p None = []
taken_at q p (Some k) = Some (at_spot q p) ∷ []

three_joined : {A : Type 0} (a b c : List A) → a ++ (b ++ (c ++ [])) ≡ a ++ b ++ c
three_joined a b c = ap (λ t. a ++ (b ++ t)) (append-nil c) ∙ sym (append_assoc a b c)

three_mapped : {A : Type 0} (f : ℕ → A) (a b c : List ℕ) → map f a ++ (map f b ++ (map f c ++ [])) ≡ map f (a ++ b ++ c)
three_mapped f a b c =
    three_joined (map f a) (map f b) (map f c) ∙ ap (λ t. t ++ map f c) (sym (map-append f a b)) ∙ sym (map-append f (a ++ b) c)

module _ (rows : List Row) where
  taken_if : (q : ℕ) (p : Port) (o : Option ℕ) → (if is_some o then Some (at_spot q p) ∷ [] else []) ≡ taken_at q p o
  taken_if q p None = refl
  taken_if q p (Some k) = refl

  place_taken : (q r : ℕ) (p : Port) → place_at q (status_of rows r) p ≡ taken_at q p (child rows r p)
  place_taken q r p =
      ap (λ (b : Bool). if b then Some (at_spot q p) ∷ [] else []) (connected rows r p) ∙ taken_if q p (child rows r p)

  -- the places for the children of a slave are those that they take
  places_taken : (q r : ℕ) → taken_at q P3 (child rows r P3) ++ (taken_at q P1 (child rows r P1) ++ (taken_at q P2 (child rows r P2) ++ [])) ≡ places q (status_of rows r)
  unfolding places
  places_taken q r =
      three_joined (taken_at q P3 (child rows r P3)) (taken_at q P1 (child rows r P1)) (taken_at q P2 (child rows r P2))
      ∙ sym (ap₂ (λ x y. x ++ y) (ap₂ (λ x y. x ++ y) (place_taken q r P3) (place_taken q r P1)) (place_taken q r P2))

  child_placed : (r q : ℕ) (p : Port) (k : ℕ) → position_of rows r ≡ q → child rows r p ≡ Some k → placed rows k ≡ Some (at_spot q p)
  child_placed r q p k at e = ap (by_position rows) (child_hangs rows r p k e).1 ∙ ap (λ n. Some (at_spot n p)) at

  -- a subtree that stands from some position on hangs at its place, and then what hangs at others
  abbrev HangsThere : ℕ → Type 0
  HangsThere r = (q : ℕ) → Stands rows q (subtree rows r) → (others : List Place) (rest : List ℕ) (later : List Place)
      → Hangs others (q + length (subtree rows r)) rest later
      → Hangs (placed rows r ∷ others) q (map (status_of rows) (subtree rows r) ++ rest) (map (placed rows) (subtree rows r) ++ later)

  port_hangs : (r q : ℕ) (p : Port) (o : Option ℕ) → position_of rows r ≡ q → child rows r p ≡ o → ((k : ℕ) → o ≡ Some k → HangsThere k)
      → (start : ℕ) → Stands rows start (behind (subtree rows) o) → (others : List Place) (rest : List ℕ) (later : List Place)
      → Hangs others (start + length (behind (subtree rows) o)) rest later
      → Hangs (taken_at q p o ++ others) start (map (status_of rows) (behind (subtree rows) o) ++ rest) (map (placed rows) (behind (subtree rows) o) ++ later)
  port_hangs r q p None at e known start stands others rest later h =
      let e : start + 0 ≡ start = omega arith in subst (λ n. Hangs others n rest later) e h
  port_hangs r q p (Some k) at e known start stands others rest later h =
      subst (λ place. Hangs (place ∷ others) start (map (status_of rows) (subtree rows k) ++ rest) (map (placed rows) (subtree rows k) ++ later))
      (child_placed r q p k at e) (known k refl start stands others rest later h)

  children_hang : (r q : ℕ) (a b c : List ℕ) → a ≡ behind (subtree rows) (child rows r P3) → b ≡ behind (subtree rows) (child rows r P1) → c ≡ behind (subtree rows) (child rows r P2)
      → position_of rows r ≡ q → ((p : Port) (k : ℕ) → child rows r p ≡ Some k → HangsThere k) → Stands rows (suc q) (a ++ b ++ c)
      → Hangs (places q (status_of rows r)) (suc q) (map (status_of rows) (a ++ b ++ c)) (map (placed rows) (a ++ b ++ c))
  children_hang r q a b c ea eb ec at known stands =
      let s = status_of rows in
      let h = placed rows in
      let p3 = taken_at q P3 (child rows r P3) in
      let p1 = taken_at q P1 (child rows r P1) in
      let p2 = taken_at q P2 (child rows r P2) in
      let front = stands_front rows (suc q) (a ++ b) c stands in
      let count = length-append a b in
      let second : Stands rows (suc q + length a + length b) c =
      subst (λ n. Stands rows n c) (omega (arith, count)) (stands_behind rows (suc q) (a ++ b) c stands) in
      let two : Hangs (p2 ++ []) (suc q + length a + length b) (map s c ++ []) (map h c ++ []) =
      port_at P2 c ec (suc q + length a + length b) second [] [] [] (nothing (suc q + length a + length b + length c)) in
      let one : Hangs (p1 ++ (p2 ++ [])) (suc q + length a) (map s b ++ (map s c ++ [])) (map h b ++ (map h c ++ [])) =
      port_at P1 b eb (suc q + length a) (stands_behind rows (suc q) a b front) (p2 ++ []) (map s c ++ []) (map h c ++ []) two in
      let three : Hangs (p3 ++ (p1 ++ (p2 ++ []))) (suc q) (map s a ++ (map s b ++ (map s c ++ []))) (map h a ++ (map h b ++ (map h c ++ []))) =
      port_at P3 a ea (suc q) (stands_front rows (suc q) a b front) (p1 ++ (p2 ++ [])) (map s b ++ (map s c ++ [])) (map h b ++ (map h c ++ [])) one in
      subst (λ x. Hangs x (suc q) (map s (a ++ b ++ c)) (map h (a ++ b ++ c))) (places_taken q r)
      (subst (λ x. Hangs (p3 ++ (p1 ++ (p2 ++ []))) (suc q) x (map h (a ++ b ++ c))) (three_mapped s a b c)
      (subst (λ x. Hangs (p3 ++ (p1 ++ (p2 ++ []))) (suc q) (map s a ++ (map s b ++ (map s c ++ []))) x) (three_mapped h a b c) three))
    where
      port_at : (p : Port) (xs : List ℕ) → xs ≡ behind (subtree rows) (child rows r p) → (start : ℕ) → Stands rows start xs
          → (others : List Place) (rest : List ℕ) (later : List Place) → Hangs others (start + length xs) rest later
          → Hangs (taken_at q p (child rows r p) ++ others) start (map (status_of rows) xs ++ rest) (map (placed rows) xs ++ later)
      port_at p xs e start stands others rest later h =
          subst (λ (t : List ℕ). Hangs (taken_at q p (child rows r p) ++ others) start (map (status_of rows) t ++ rest) (map (placed rows) t ++ later)) (sym e)
          (port_hangs r q p (child rows r p) at refl (known p) start (subst (Stands rows start) e stands) others rest later
          (subst (λ (t : List ℕ). Hangs others (start + length t) rest later) e h))

  module _ (tree : IsTree rows) where
    hangs_step : (r : ℕ) → r < length rows → ((p : Port) (k : ℕ) → child rows r p ≡ Some k → HangsThere k) → HangsThere r
    hangs_step r within known = λ q stands others rest later h.
        let a = behind (subtree rows) (child rows r P3) in
        let b = behind (subtree rows) (child rows r P1) in
        let c = behind (subtree rows) (child rows r P2) in
        let is : subtree rows r ≡ r ∷ (a ++ b ++ c) = subtree_is rows tree r within in
        let parts : Stands rows q (r ∷ (a ++ b ++ c)) = subst (Stands rows q) is stands in
        let inside = children_hang r q a b c refl refl refl (stands_first rows q r (a ++ b ++ c) parts) known (stands_later rows q r (a ++ b ++ c) parts) in
        let count = ap length is in
        let shown = length-map (a ++ b ++ c) (status_of rows) in
        let others_hang : Hangs others (suc q + length (map (status_of rows) (a ++ b ++ c))) rest later =
        subst (λ n. Hangs others n rest later) (omega (arith, count, shown)) h in
        subst (λ (t : List ℕ). Hangs (placed rows r ∷ others) q (map (status_of rows) t ++ rest) (map (placed rows) t ++ later)) (sym is)
        (slave (placed rows r) others q (status_of rows r) (map (status_of rows) (a ++ b ++ c)) (map (placed rows) (a ++ b ++ c)) rest later (formed rows r) inside others_hang)

    pub hangs_there : (r : ℕ) → r < length rows → HangsThere r
    hangs_there = tree_induction rows tree HangsThere hangs_step

    -- the whole tree hangs at no place
    pub listed : All IsRow rows → Lists (map (status_of rows) (order rows)) (map (placed rows) (order rows))
    listed slaves =
        let top = root_of rows tree in
        let s = map (status_of rows) (order rows) in
        let h = map (placed rows) (order rows) in
        let all : Hangs (placed rows (root rows) ∷ []) 0 (s ++ []) (h ++ []) =
        hangs_there (root rows) top.0 0 (order_stands rows tree slaves) [] [] [] (nothing (0 + length (order rows))) in
        subst (λ x. Hangs (x ∷ []) 0 s h) (ap (by_position rows) top.1)
        (subst (λ x. Hangs (placed rows (root rows) ∷ []) 0 x h) (append-nil s)
        (subst (λ x. Hangs (placed rows (root rows) ∷ []) 0 (s ++ []) x) (append-nil h) all))
