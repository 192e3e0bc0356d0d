-- Arrivals rise along the frame order, and stay inside the round trip.
use Rattle.std.proofs.Common.{◌≡◌, ℕ, suc, zero, ◌+◌, ◌*◌, ◌<◌, ◌≤◌, Option, Some, None, List, [], ◌∷◌, ◌++◌, length, get_or, arith, refl, ap, eqb}
use Rattle.std.proofs.lemmas.Bool.{ne_eqb, eqb-true}
use Rattle.std.proofs.lemmas.List.{length-append}
use Rattle.std.proofs.lemmas.List.Elements.{All-get_or}
use Rattle.std.proofs.lemmas.Map.Keys.{IsDistinct-from_apart}
use Rattle.std.proofs.lemmas.Map.Steps.{length-le_from_distinct_below}
use Rattle.std.proofs.lemmas.Map.Views.{Contains-from_any}
use Rattle.std.specs.List.{All, IsDistinct}
use Rattle.cable_tree.specs.declared.port.Port.{Port}
use Rattle.cable_tree.specs.declared.port.Port.TheVariants.{P1, P2, P3}
use Rattle.cable_tree.specs.Row.{Row, IsRow, tp, cable, no_row}
use Rattle.cable_tree.specs.Segment.{IsTree}
use Rattle.cable_tree.specs.FrameOrder.{child, behind, subtree, order, root}
use Rattle.cable_tree.specs.PathSums.{detour_to, detour, earlier, span, arrive}
use Rattle.cable_tree.proofs.Children.{child_hangs, root_of}
use Rattle.cable_tree.proofs.Levels.{tree_induction, subtree_is, span_is, arrive_at_root, arrive_at_child}

module _ (rows : List Row) where
  -- the rows arrive one after another, from the first instant on, and are passed by the second one
  unfoldable pub Rises : ℕ → List ℕ → ℕ → Type 0
  Rises low [] high = low ≤ high
  Rises low (x ∷ xs) high = (low ≤ arrive rows x) × (arrive rows x + span rows x ≤ high) × (x < length rows) × Rises (arrive rows x + 1) xs high

  rises_later : (low later : ℕ) (xs : List ℕ) (high : ℕ) → low ≤ later → Rises later xs high → Rises low xs high
  unfolding Rises
  rises_later low later [] high le h = omega arith
  rises_later low later (x ∷ xs) high le h = (omega (arith, h.0), h.1, h.2, h.3)

  rises_window : (low : ℕ) (xs : List ℕ) (high : ℕ) → Rises low xs high → low ≤ high
  unfolding Rises
  rises_window low [] high h = h
  rises_window low (x ∷ xs) high h = omega (arith, h.0, h.1)

  rises_append : (low : ℕ) (xs : List ℕ) (middle : ℕ) (ys : List ℕ) (high : ℕ) → Rises low xs middle → Rises middle ys high → Rises low (xs ++ ys) high
  unfolding Rises
  rises_append low [] middle ys high h g = rises_later low middle ys high h g
  rises_append low (x ∷ xs) middle ys high h g =
      (h.0, omega (arith, h.1, rises_window middle ys high g), h.2, rises_append (arrive rows x + 1) xs middle ys high h.3 g)

  rises_longer : (low : ℕ) (xs : List ℕ) (high more : ℕ) → high ≤ more → Rises low xs high → Rises low xs more
  unfolding Rises
  rises_longer low [] high more le h = omega arith
  rises_longer low (x ∷ xs) high more le h = (h.0, omega (arith, h.1), h.2, rises_longer (arrive rows x + 1) xs high more le h.3)

  abbrev Passes : ℕ → Type 0
  Passes k = Rises (arrive rows k) (subtree rows k) (arrive rows k + span rows k)

  -- what stands behind a port, given where the child is met
  port_rises : (r low : ℕ) (o : Option ℕ) → ((k : ℕ) → o ≡ Some k → (arrive rows k ≡ low + cable rows k) × Passes k)
      → Rises low (behind (subtree rows) o) (low + detour_to rows (span rows) r o)
  unfolding Rises
  port_rises r low None known = omega arith
  port_rises r low (Some k) known =
      let is = (known k refl).0 in
      rises_later low (arrive rows k) (subtree rows k) (low + detour_to rows (span rows) r (Some k)) (omega arith)
      (rises_longer (arrive rows k) (subtree rows k) (arrive rows k + span rows k) (low + detour_to rows (span rows) r (Some k)) (omega arith) (known k refl).1)

  module _ (tree : IsTree rows) (slaves : All IsRow rows) where
    pub tp_some : (r : ℕ) → r < length rows → 1 ≤ tp rows r
    tp_some r within = let row = All-get_or IsRow rows r no_row within slaves in let some = row.tp_some in omega arith

    step : (r : ℕ) → r < length rows → ((p : Port) (k : ℕ) → child rows r p ≡ Some k → Passes k) → Passes r
    unfolding Rises
    step r within children =
        let start = arrive rows r + tp rows r in
        let known : (p : Port) (k : ℕ) → child rows r p ≡ Some k → (arrive rows k ≡ start + earlier rows r p + cable rows k) × Passes k
        = λ p k e. (arrive_at_child rows tree r p k e, children p k e) in
        let three = port_rises r (start + 0) (child rows r P3) (known P3) in
        let one = port_rises r (start + detour rows r P3) (child rows r P1) (known P1) in
        let two = port_rises r (start + (detour rows r P3 + detour rows r P1)) (child rows r P2) (known P2) in
        let is = span_is rows tree r within in
        let some = tp_some r within in
        let three' = rises_later (arrive rows r + 1) (start + 0) (behind (subtree rows) (child rows r P3)) (start + detour rows r P3) (omega arith)
        (rises_longer (start + 0) (behind (subtree rows) (child rows r P3)) (start + 0 + detour rows r P3) (start + detour rows r P3) (omega arith) three) in
        let one' = rises_longer (start + detour rows r P3) (behind (subtree rows) (child rows r P1)) (start + detour rows r P3 + detour rows r P1) (start + (detour rows r P3 + detour rows r P1)) (omega arith) one in
        let two' = rises_longer (start + (detour rows r P3 + detour rows r P1)) (behind (subtree rows) (child rows r P2)) (start + (detour rows r P3 + detour rows r P1) + detour rows r P2) (arrive rows r + span rows r) (omega arith) two in
        let rest = behind (subtree rows) (child rows r P3) ++ behind (subtree rows) (child rows r P1) ++ behind (subtree rows) (child rows r P2) in
        let below : Rises (arrive rows r + 1) rest (arrive rows r + span rows r) =
        rises_append (arrive rows r + 1) (behind (subtree rows) (child rows r P3) ++ behind (subtree rows) (child rows r P1)) (start + (detour rows r P3 + detour rows r P1)) (behind (subtree rows) (child rows r P2)) (arrive rows r + span rows r)
        (rises_append (arrive rows r + 1) (behind (subtree rows) (child rows r P3)) (start + detour rows r P3) (behind (subtree rows) (child rows r P1)) (start + (detour rows r P3 + detour rows r P1)) three' one')
        two' in
        let all : Rises (arrive rows r) (r ∷ rest) (arrive rows r + span rows r) = (omega arith, omega arith, within, below) in
        rw (subtree_is rows tree r within) all

    -- the frame is in the subtree of a row from its arrival there to the end of its span
    pub subtree_rises : (r : ℕ) → r < length rows → Rises (arrive rows r) (subtree rows r) (arrive rows r + span rows r)
    subtree_rises = tree_induction rows tree Passes step

  -- each of the rows is met in the window, and an earlier one first
  rises_each : (low : ℕ) (xs : List ℕ) (high d : ℕ) → Rises low xs high → (i : ℕ) → i < length xs →
      (low ≤ arrive rows (get_or xs i d)) × (arrive rows (get_or xs i d) + span rows (get_or xs i d) ≤ high) × (get_or xs i d < length rows)
  unfolding Rises
  rises_each low [] high d h i within = absurd (omega arith)
  rises_each low (x ∷ xs) high d h zero within = (h.0, h.1, h.2)
  rises_each low (x ∷ xs) high d h (suc i) within =
      let later = rises_each (arrive rows x + 1) xs high d h.3 i (omega arith) in
      let first = h.0 in
      let now = later.0 in
      (omega arith, later.1, later.2)

  rises_pair : (low : ℕ) (xs : List ℕ) (high d : ℕ) → Rises low xs high → (i j : ℕ) → i < j → j < length xs →
      arrive rows (get_or xs i d) < arrive rows (get_or xs j d)
  unfolding Rises
  rises_pair low [] high d h i j less within = absurd (omega arith)
  rises_pair low (x ∷ xs) high d h i zero less within = absurd (omega arith)
  rises_pair low (x ∷ xs) high d h zero (suc j) less within =
      let later = (rises_each (arrive rows x + 1) xs high d h.3 j (omega arith)).0 in omega arith
  rises_pair low (x ∷ xs) high d h (suc i) (suc j) less within = rises_pair (arrive rows x + 1) xs high d h.3 i j (omega arith) (omega arith)

  rises_distinct : (low : ℕ) (xs : List ℕ) (high : ℕ) → Rises low xs high → IsDistinct eqb xs
  rises_distinct low xs high h =
      IsDistinct-from_apart eqb xs (λ i j d less within. ne_eqb (get_or xs i d) (get_or xs j d)
      (λ same. let rise = rises_pair low xs high d h i j less within in let e = ap (arrive rows) same in omega arith))

  -- so there are at most as many as there are rows
  rises_few : (low : ℕ) (xs : List ℕ) (high : ℕ) → Rises low xs high → length xs ≤ length rows
  rises_few low xs high h =
      length-le_from_distinct_below xs (length rows) (rises_distinct low xs high h)
      (λ q any. let at = Contains-from_any (λ x y e. eqb-true x y e) q xs any in
      let is = (rises_each low xs high q h at.0 at.1).2 in
      let e = at.2 in
      omega arith)

module _ (rows : List Row) (tree : IsTree rows) (slaves : All IsRow rows) where
  pub subtree_few : (r : ℕ) → r < length rows → length (subtree rows r) ≤ length rows
  subtree_few r within = rises_few rows (arrive rows r) (subtree rows r) (arrive rows r + span rows r) (subtree_rises rows tree slaves r within)

  order_rises : Rises rows (arrive rows (root rows)) (order rows) (arrive rows (root rows) + span rows (root rows))
  order_rises = subtree_rises rows tree slaves (root rows) (root_of rows tree).0

  -- an earlier slave in the frame order is met first
  pub order_pair : (i j : ℕ) → i < j → j < length (order rows) → arrive rows (get_or (order rows) i 0) < arrive rows (get_or (order rows) j 0)
  order_pair = rises_pair rows (arrive rows (root rows)) (order rows) (arrive rows (root rows) + span rows (root rows)) 0 order_rises

  -- and so no slave stands twice
  pub order_once : (i j : ℕ) → i < j → j < length (order rows) → get_or (order rows) i 0 ≡ get_or (order rows) j 0 → ⊥
  order_once i j less within same =
      let rise = order_pair i j less within in
      let e = ap (arrive rows) same in
      omega arith

  pub order_within : (i : ℕ) → i < length (order rows) → get_or (order rows) i 0 < length rows
  order_within i within = (rises_each rows (arrive rows (root rows)) (order rows) (arrive rows (root rows) + span rows (root rows)) 0 order_rises i within).2

  pub order_few : length (order rows) ≤ length rows
  order_few = subtree_few (root rows) (root_of rows tree).0

  -- and leaves before the frame leaves the root
  pub order_inside : (i : ℕ) → i < length (order rows) →
      arrive rows (get_or (order rows) i 0) + span rows (get_or (order rows) i 0) ≤ cable rows (root rows) + span rows (root rows)
  order_inside i within =
      let inside = (rises_each rows (arrive rows (root rows)) (order rows) (arrive rows (root rows) + span rows (root rows)) 0 order_rises i within).1 in
      let start = arrive_at_root rows tree (root rows) (root_of rows tree).0 (root_of rows tree).1 in
      omega arith

  long : (r : ℕ) (o : Option ℕ) → r < length rows → ((k : ℕ) → o ≡ Some k → (k < length rows) × (span rows k + 210000000000 ≤ 220000000000 * length (subtree rows k)))
      → detour_to rows (span rows) r o ≤ 220000000000 * length (behind (subtree rows) o)
  long r None within known = omega arith
  long r (Some k) within known =
      let this = All-get_or IsRow rows r no_row within slaves in
      let that = All-get_or IsRow rows k no_row (known k refl).0 slaves in
      let most = this.tf_most in
      let far = that.cable_most in
      let kept = (known k refl).1 in
      omega arith

  -- each row of a subtree takes the frame at most 220 us, its cable both ways included
  pub span_most : (r : ℕ) → r < length rows → span rows r + 210000000000 ≤ 220000000000 * length (subtree rows r)
  span_most = tree_induction rows tree (λ r. span rows r + 210000000000 ≤ 220000000000 * length (subtree rows r)) (λ r within children.
      let known : (p : Port) (k : ℕ) → child rows r p ≡ Some k → (k < length rows) × (span rows k + 210000000000 ≤ 220000000000 * length (subtree rows k))
      = λ p k e. ((child_hangs rows r p k e).0, children p k e) in
      let three = long r (child rows r P3) within (known P3) in
      let one = long r (child rows r P1) within (known P1) in
      let two = long r (child rows r P2) within (known P2) in
      let is = span_is rows tree r within in
      let row = All-get_or IsRow rows r no_row within slaves in
      let most = row.tp_most in
      let a = behind (subtree rows) (child rows r P3) in
      let b = behind (subtree rows) (child rows r P1) in
      let c = behind (subtree rows) (child rows r P2) in
      let whole = ap length (subtree_is rows tree r within) in
      let joined = length-append (a ++ b) c in
      let front = length-append a b in
      omega arith)
