-- The first drawn slave is the reference, and every other clock can be measured from one above it.
use Rattle.std.proofs.Common.{◌≡◌, ◌∙◌, ap, refl, sym, subst, ℕ, zero, suc, ◌+◌, ◌<◌, ◌≤◌, inl, inr, Bool, true, false, ◌&&◌, ◌||◌, not, List, [], ◌∷◌, ◌++◌, length, take, drop, get_or, Option, Some, None, arith, filter, if◌then◌else◌, nat_le}
use Rattle.std.specs.List.{All, find}
use Rattle.std.specs.Option.{is_some}
use Rattle.std.proofs.lemmas.List.{get_or-map, get_or-take}
use Rattle.std.proofs.lemmas.List.Elements.{All-map}
use Rattle.cable_tree.specs.declared.port.Above.{Above}
use Rattle.cable_tree.specs.declared.port.Port.{Port}
use Rattle.cable_tree.specs.declared.port.Port.TheVariants.{P1, P2, P3}
use Rattle.cable_tree.specs.Row.{IsRow, above}
use Rattle.cable_tree.specs.FrameOrder.{child, root, subtree, order}
use Rattle.cable_tree.specs.FrameOrder as frame
use Rattle.cable_tree.specs.Segment.{IsSegment}
use Rattle.cable_tree.proofs.Exported.{child_hangs, root_of, subtree_is, order_once, order_within}
use Rattle.dc_bounds.specs.Measurable.{branches, is_measured_within, is_measurable, unmeasurable}
use Rattle.esc_regs.specs.Kinds.{measures, has_clock}
use Rattle.segment_file.specs.Segment.{RowValue, tree_row, tree_rows, clock_at, measures_at, is_clock, is_measuring, reference_row}
use Rattle.segment_draw.specs.Generated.{behind}
use Rattle.segment_draw.proofs.ClockLemmas.{of_kinds, first_clock, row_ok}
use Rattle.segment_draw.proofs.PlaceLemmas.{IsPlace}
use Rattle.segment_draw.proofs.TreeLemmas.{AreDrawn, no_value, many, front, spot, parent_before, root_first, are_tree}

none_found : (p : ℕ → Bool) (m : ℕ → Bool) (xs : List ℕ) → ((k : ℕ) → k < length xs → p (get_or xs k 0) ≡ false) → find p (filter m xs) ≡ None
none_found p m [] all = refl
none_found p m (x ∷ xs) all = by_test (m x) (all 0 (omega arith)) (none_found p m xs (λ k low. all (suc k) (omega arith)))
  where
    by_test : (b : Bool) → p x ≡ false → find p (filter m xs) ≡ None → find p (if b then x ∷ filter m xs else filter m xs) ≡ None
    by_test true here rest = rw here rest
    by_test false here rest = rest

module _ (rows : List RowValue) (drawn : AreDrawn rows) where
  clock_here : (k : ℕ) → k < length rows → clock_at rows k ≡ is_clock (get_or rows k no_value)
  clock_here k low = get_or-map is_clock rows k no_value false low

  measures_here : (k : ℕ) → k < length rows → measures_at rows k ≡ is_measuring (get_or rows k no_value)
  measures_here k low = get_or-map is_measuring rows k no_value false low

  all_clocks : (k : ℕ) → k < length rows → measures_at rows k ≡ clock_at rows k
  all_clocks k low =
      let one = drawn.made k no_value low in
      measures_here k low
      ∙ ap is_measuring one.is
      ∙ of_kinds (λ kind. measures kind ≡ has_clock kind) (length (take k rows)) one.draws refl refl refl
      ∙ sym (ap is_clock one.is)
      ∙ sym (clock_here k low)

  first_measures : measures_at rows 0 ≡ true
  first_measures =
      let one = drawn.made 0 no_value drawn.some in
      measures_here 0 drawn.some ∙ ap is_measuring one.is ∙ first_clock 0 one.draws refl

  -- at a clockless slave only the row behind it hangs
  behind_it : (k : ℕ) (a : Above) → k < length rows → above (tree_rows rows) k ≡ Some a → measures_at rows a.row ≡ false → a ≡ behind k
  behind_it k a low e clockless = let before = parent_before rows drawn k a low e in by_place before.1 before.2
    where
      by_place : a.row < k → IsPlace (take k rows) a → a ≡ behind k
      by_place less (inl is) = is ∙ ap behind (front rows drawn k low)
      by_place less (inr free) =
          let there : clock_at (take k rows) a.row ≡ clock_at rows a.row =
          get_or-map is_clock (take k rows) a.row no_value false free.row ∙ ap is_clock (get_or-take k rows a.row no_value less) ∙ sym (clock_here a.row (omega arith)) in
          let clock = sym (all_clocks a.row (omega arith)) ∙ clockless in
          let some = free.clock in
          absurd (cc (there, clock, some))

  no_child : (r : ℕ) (p : Port) → measures_at rows r ≡ false → (P1 ≡ p → ⊥) → is_some (child (tree_rows rows) r p) ≡ false
  no_child r p clockless other = by_child (child (tree_rows rows) r p) refl
    where
      by_child : (o : Option ℕ) → child (tree_rows rows) r p ≡ o → is_some o ≡ false
      by_child None e = refl
      by_child (Some k) e =
          let hangs = child_hangs (tree_rows rows) r p k e in
          let is = behind_it k (record { row = r; port = p }) (omega (arith, hangs.0, many rows drawn)) hangs.1 clockless in
          absurd (other (sym (ap (λ (b : Above). b.port) is)))

  two_ports : (a b c : Bool) → a ≡ false → c ≡ false → nat_le 2 ((if a then 1 else 0) + (if b then 1 else 0) + (if c then 1 else 0)) ≡ false
  two_ports a true c x y = rw (x, y) refl
  two_ports a false c x y = rw (x, y) refl

  one_child : (r : ℕ) → measures_at rows r ≡ false → branches (tree_rows rows) r ≡ false
  one_child r clockless =
      two_ports (is_some (child (tree_rows rows) r P3)) (is_some (child (tree_rows rows) r P1)) (is_some (child (tree_rows rows) r P2))
      (no_child r P3 clockless (λ e. cc e)) (no_child r P2 clockless (λ e. cc e))

  measured : (steps r : ℕ) → r ≤ steps → 1 ≤ r → r < length rows → is_measured_within (tree_rows rows) (measures_at rows) steps r ≡ true
  unfolding is_measured_within
  measured zero r few some low = absurd (omega arith)
  measured (suc steps) r few some low =
      let is = spot rows drawn r some low in
      let before = (parent_before rows drawn r is.0 low is.1).1 in
      rw is.1 (by_test is.0 (measures_at rows is.0.row) refl (λ later. measured steps is.0.row (omega (arith, before)) later (omega (arith, before))))
    where
      by_test : (a : Above) (b : Bool) → measures_at rows a.row ≡ b → (1 ≤ a.row → is_measured_within (tree_rows rows) (measures_at rows) steps a.row ≡ true)
          → (measures_at rows a.row || (not (branches (tree_rows rows) a.row) && is_measured_within (tree_rows rows) (measures_at rows) steps a.row)) ≡ true
      by_test a true is up = rw is refl
      by_test a false is up = rw (is, one_child a.row is, up (not_root a.row is)) refl
        where
          not_root : (q : ℕ) → measures_at rows q ≡ false → 1 ≤ q
          not_root zero never = let always = first_measures in absurd (cc (always, never))
          not_root (suc q) never = omega arith

  slaves_ok : All IsRow (tree_rows rows)
  slaves_ok = All-map IsRow tree_row rows (λ k d low. let one = drawn.made k d low in subst (λ r. IsRow (tree_row r)) (sym one.is) (row_ok (take k rows) one.draws))

  pub are_segment : IsSegment (tree_rows rows)
  are_segment = record { tree = are_tree rows drawn; slaves = slaves_ok; few = omega (arith, many rows drawn, drawn.few) }

  pub root_is_first : root (tree_rows rows) ≡ 0
  root_is_first =
      let top = root_of (tree_rows rows) (are_tree rows drawn) in
      root_first rows drawn (root (tree_rows rows)) (omega (arith, top.0, many rows drawn)) top.1

  rest : List ℕ
  rest =
      frame.behind (subtree (tree_rows rows)) (child (tree_rows rows) 0 P3)
      ++ frame.behind (subtree (tree_rows rows)) (child (tree_rows rows) 0 P1)
      ++ frame.behind (subtree (tree_rows rows)) (child (tree_rows rows) 0 P2)

  order_is : order (tree_rows rows) ≡ 0 ∷ rest
  unfolding rest
  order_is = ap (subtree (tree_rows rows)) root_is_first ∙ subtree_is (tree_rows rows) (are_tree rows drawn) 0 (omega (arith, many rows drawn, drawn.some))

  pub first_is_reference : reference_row rows ≡ Some 0
  first_is_reference =
      let clock = sym (all_clocks 0 drawn.some) ∙ first_measures in
      ap (find (clock_at rows)) order_is ∙ rw clock refl

  later : (k : ℕ) → k < length rest → (1 ≤ get_or rest k 0) × (get_or rest k 0 < length rows)
  later k low =
      let T = tree_rows rows in
      let long : length (order T) ≡ suc (length rest) = ap length order_is in
      let at : get_or (order T) (suc k) 0 ≡ get_or rest k 0 = ap (λ (l : List ℕ). get_or l (suc k) 0) order_is in
      let top : get_or (order T) 0 0 ≡ 0 = ap (λ (l : List ℕ). get_or l 0 0) order_is in
      let within = order_within T (are_tree rows drawn) slaves_ok (suc k) (omega arith) in (
        not_zero (get_or rest k 0) (λ e. order_once T (are_tree rows drawn) slaves_ok 0 (suc k) (omega arith) (omega arith) (top ∙ sym e ∙ sym at)),
        omega (arith, within, at, many rows drawn),
      )
    where
      not_zero : (n : ℕ) → (n ≡ 0 → ⊥) → 1 ≤ n
      not_zero zero h = absurd (h refl)
      not_zero (suc n) h = omega arith

  pub all_measurable : unmeasurable (tree_rows rows) (measures_at rows) (order (tree_rows rows)) ≡ None
  all_measurable =
      let T = tree_rows rows in
      let first = first_measures in
      ap (λ (l : List ℕ). find (λ r. not (is_measurable T (measures_at rows) r)) (drop 1 (filter (measures_at rows) l))) order_is
      ∙ rw first (none_found (λ r. not (is_measurable T (measures_at rows) r)) (measures_at rows) rest
      (λ k low. let is = later k low in ap not (measured (length T) (get_or rest k 0) (omega (arith, is, many rows drawn)) is.0 is.1)))
