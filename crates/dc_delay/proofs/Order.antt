-- The frame order, in which a measuring slave comes after the measuring slaves above it.
use Rattle.std.specs.Prelude.{◌≡◌, ℕ, suc, zero, ◌<◌, ◌≤◌, Bool, true, false, not, ◌&&◌, ◌||◌, if◌then◌else◌, Option, Some, None, List, [], ◌∷◌, length, drop, filter, slice_index}
use Rattle.std.specs.List.{All, find}
use Rattle.std.proofs.Common.{arith, refl, sym, ap, ◌∙◌, subst, inl, inr}
use Rattle.std.proofs.lemmas.Bool.{cases_lt, false≢true}
use Rattle.cable_tree.specs.declared.port.Above.{Above}
use Rattle.cable_tree.specs.Row.{Row, IsRow, above}
use Rattle.cable_tree.specs.Segment.{IsTree}
use Rattle.cable_tree.specs.FrameOrder.{order}
use Rattle.cable_tree.specs.PathSums.{arrive}
use Rattle.cable_tree.proofs.Exported.{child_is, arrive_at_child, order_pair, tp_some, place_of}
use Rattle.dc_bounds.specs.Weight.{measuring_step, measuring_parent}
use Rattle.dc_bounds.specs.Measurable.{branches, is_measured_step, is_measurable, unmeasurable}
use Rattle.dc_delay.specs.LatchLaw.{AreMeasurable}
use Rattle.dc_bounds.proofs.Exported.{parent_measures, parent_within}
use Rattle.dc_delay.proofs.Recursions.{climb_above, measuring_is, measured_is}

module _ (measures test : ℕ → Bool) where
  -- where no measuring one fails, each passes
  all_pass : (xs : List ℕ) → find (λ r. not (test r)) (filter measures xs) ≡ None → (i : ℕ) → i < length xs → measures (slice_index xs i) ≡ true → test (slice_index xs i) ≡ true
  all_pass [] none i less measured = absurd (omega arith)
  all_pass (x ∷ xs) none i less measured = at (measures x) (test x) refl refl i less measured (all_pass xs)
    where
      at : (m t : Bool) → measures x ≡ m → test x ≡ t → (i : ℕ) → i < length (x ∷ xs) → measures (slice_index (x ∷ xs) i) ≡ true
          → (find (λ r. not (test r)) (filter measures xs) ≡ None → (i : ℕ) → i < length xs → measures (slice_index xs i) ≡ true → test (slice_index xs i) ≡ true)
          → test (slice_index (x ∷ xs) i) ≡ true
      at true true em et zero less measured later = et
      at true false em et i less measured later = absurd (let found : Some x ≡ None = sym (rw (em, et) refl) ∙ none in cc)
      at false t em et zero less measured later = absurd (false≢true (sym em ∙ measured))
      at true true em et (suc i) less measured later = later (sym (rw (em, et) refl) ∙ none) i (omega arith) measured
      at false t em et (suc i) less measured later = later (sym (rw em refl) ∙ none) i (omega arith) measured

  -- and where none but the first fails, each passes that has another before it
  later_pass : (xs : List ℕ) → find (λ r. not (test r)) (drop 1 (filter measures xs)) ≡ None → (i j : ℕ) → i < j → j < length xs
      → measures (slice_index xs i) ≡ true → measures (slice_index xs j) ≡ true → test (slice_index xs j) ≡ true
  later_pass [] none i j less within here there = absurd (omega arith)
  later_pass (x ∷ xs) none i zero less within here there = absurd (omega arith)
  later_pass (x ∷ xs) none i (suc j) less within here there = at (measures x) refl i less here (later_pass xs)
    where
      at : (m : Bool) → measures x ≡ m → (i : ℕ) → i < suc j → measures (slice_index (x ∷ xs) i) ≡ true
          → (find (λ r. not (test r)) (drop 1 (filter measures xs)) ≡ None → (i j : ℕ) → i < j → j < length xs
          → measures (slice_index xs i) ≡ true → measures (slice_index xs j) ≡ true → test (slice_index xs j) ≡ true)
          → test (slice_index xs j) ≡ true
      at true em i less here later = all_pass xs (sym (rw em refl) ∙ none) j (omega arith) there
      at false em zero less here later = absurd (false≢true (sym em ∙ here))
      at false em (suc i) less here later = later (sym (rw em refl) ∙ none) i j (omega arith) (omega arith) here there

module _ (rows : List Row) (tree : IsTree rows) (measures : ℕ → Bool) where
  -- what is measurable has a measuring parent
  abbrev HasParent : ℕ → Type 0
  HasParent r = is_measurable rows measures r ≡ true → (a : Above) × (measuring_parent rows measures r ≡ Some a)

  parent_at : (r : ℕ) → r < length rows → (o : Option Above) → above rows r ≡ o → ((b : Above) → above rows r ≡ Some b → HasParent b.row) → HasParent r
  parent_at r within None up higher = λ measurable.
      absurd (false≢true (sym (measured_is rows tree measures r within ∙ ap (is_measured_step measures (branches rows) (is_measurable rows measures)) up) ∙ measurable))
  parent_at r within (Some b) up higher = λ measurable. by (measures b.row) refl measurable
    where
      leads : is_measurable rows measures r ≡ (measures b.row || (not (branches rows b.row) && is_measurable rows measures b.row))
      leads = measured_is rows tree measures r within ∙ ap (is_measured_step measures (branches rows) (is_measurable rows measures)) up

      parent : measuring_parent rows measures r ≡ (if measures b.row then Some b else measuring_parent rows measures b.row)
      parent = measuring_is rows tree measures r within ∙ ap (measuring_step measures (measuring_parent rows measures)) up

      second : (x y : Bool) → (x && y) ≡ true → y ≡ true
      second true y h = h
      second false y h = absurd (false≢true h)

      by : (m : Bool) → measures b.row ≡ m → is_measurable rows measures r ≡ true → (a : Above) × (measuring_parent rows measures r ≡ Some a)
      by true e measurable = (b, parent ∙ ap (λ m. if m then Some b else measuring_parent rows measures b.row) e)
      by false e measurable =
          let rest = sym (leads ∙ ap (λ m. m || (not (branches rows b.row) && is_measurable rows measures b.row)) e) ∙ measurable in
          let found = higher b up (second (not (branches rows b.row)) (is_measurable rows measures b.row) rest) in
          (found.0, parent ∙ ap (λ m. if m then Some b else measuring_parent rows measures b.row) e ∙ found.1)

  pub has_parent : (r : ℕ) → r < length rows → HasParent r
  has_parent = climb_above rows tree HasParent (λ r within higher. parent_at r within (above rows r) refl higher)

  module _ (slaves : All IsRow rows) where
    -- which arrives first
    above_first : (r : ℕ) (a : Above) → r < length rows → above rows r ≡ Some a → arrive rows a.row < arrive rows r
    above_first r a within up =
        let inside = tree.parents r a within up in
        let is = arrive_at_child rows tree a.row a.port r (child_is rows tree a.row a.port r within up) in
        let some = tp_some rows tree slaves a.row inside in
        omega (arith, is, some)

    abbrev IsLater : ℕ → Type 0
    IsLater r = (a : Above) → measuring_parent rows measures r ≡ Some a → arrive rows a.row < arrive rows r

    later_at : (r : ℕ) → r < length rows → (o : Option Above) → above rows r ≡ o → ((b : Above) → above rows r ≡ Some b → IsLater b.row) → IsLater r
    later_at r within None up higher = λ a found. absurd (let none = measuring_is rows tree measures r within ∙ ap (measuring_step measures (measuring_parent rows measures)) up in cc)
    later_at r within (Some b) up higher = by (measures b.row) refl
      where
        parent : measuring_parent rows measures r ≡ (if measures b.row then Some b else measuring_parent rows measures b.row)
        parent = measuring_is rows tree measures r within ∙ ap (measuring_step measures (measuring_parent rows measures)) up

        by : (m : Bool) → measures b.row ≡ m → IsLater r
        by true e = λ a found.
            let here : Some b ≡ Some a = sym (parent ∙ ap (λ m. if m then Some b else measuring_parent rows measures b.row) e) ∙ found in
            let same : b ≡ a = cc in
            subst (λ (x : Above). arrive rows x.row < arrive rows r) same (above_first r b within up)
        by false e = λ a found.
            let rest = higher b up a (sym (parent ∙ ap (λ m. if m then Some b else measuring_parent rows measures b.row) e) ∙ found) in
            let less = above_first r b within up in
            omega (arith, rest, less)

    pub parent_later : (r : ℕ) → r < length rows → IsLater r
    parent_later = climb_above rows tree IsLater (λ r within higher. later_at r within (above rows r) refl higher)

    -- of two places in the order, that of the slave that arrives first is the first
    sooner : (i j : ℕ) → i < length (order rows) → arrive rows (slice_index (order rows) i) < arrive rows (slice_index (order rows) j) → i < j
    sooner i j within less =
        elim (cases_lt i j) [
          | inl lt ↦ lt
          | inr le ↦ absurd (not_later i j within less le)
        ]
      where
        not_later : (i j : ℕ) → i < length (order rows) → arrive rows (slice_index (order rows) i) < arrive rows (slice_index (order rows) j) → j ≤ i → ⊥
        not_later i j within less le =
            elim (cases_lt j i) [
              | inl lt ↦ let rise = order_pair rows tree slaves j i lt within in omega arith
              | inr ge ↦ let same : i ≡ j = omega arith in let e = ap (λ x. arrive rows (slice_index (order rows) x)) same in omega arith
            ]

    -- a measuring slave that arrives after another one is measurable, where none is told to be unmeasurable
    pub measurable_after : unmeasurable rows measures (order rows) ≡ None → (q r : ℕ) → q < length rows → r < length rows → measures q ≡ true → measures r ≡ true
        → arrive rows q < arrive rows r → is_measurable rows measures r ≡ true
    measurable_after none q r q_within r_within q_measures r_measures less =
        let i = place_of rows tree q q_within in
        let j = place_of rows tree r r_within in
        let ei = ap (arrive rows) i.2 in
        let ej = ap (arrive rows) j.2 in
        let first = sooner i.0 j.0 i.1 (omega (arith, ei, ej, less)) in
        let is = later_pass measures (is_measurable rows measures) (order rows) none i.0 j.0 first j.1 (ap measures i.2 ∙ q_measures) (ap measures j.2 ∙ r_measures) in
        sym (ap (is_measurable rows measures) j.2) ∙ is

    pub are_measurable : unmeasurable rows measures (order rows) ≡ None → AreMeasurable rows measures
    are_measurable none = λ r a within measured up.
        measurable_after none a.row r (parent_within rows measures tree (length rows) r a within up) within (parent_measures rows measures (length rows) r a up) measured (parent_later r within a up)
