-- The rows in frame order, with parents by position, are the same tree.
use Rattle.std.specs.Prelude.{◌≡◌, ℕ, suc, zero, ◌+◌, ◌*◌, ◌<◌, Option, Some, None, MatchOption, List, [], ◌∷◌, ◌++◌, length, map, slice_index}
use Rattle.std.specs.Option.{option_map}
use Rattle.std.specs.List.{All, range_with_len}
use Rattle.std.proofs.Common.{arith, refl, sym, ap, ap₂, ◌∙◌, subst, zero-add}
use Rattle.std.proofs.lemmas.List.{get_or-map, length-map, map-append}
use Rattle.std.proofs.lemmas.List.Elements.{All-get_or, All-from_get_or}
use Rattle.std.proofs.lemmas.List.FromFn.{length-range_with_len, get_or-range_with_len}
use Rattle.std.proofs.lemmas.Grind.{same_number_lists}
use Rattle.cable_tree.specs.declared.port.Above.{Above}
use Rattle.cable_tree.specs.declared.port.Port.{Port}
use Rattle.cable_tree.specs.declared.port.Port.TheVariants.{P1, P2, P3}
use Rattle.cable_tree.specs.Row.{Row, IsRow, no_row, row_at, above, tp, tf, cable}
use Rattle.cable_tree.specs.Segment.{IsTree, LeadsToRoot}
use Rattle.cable_tree.specs.FrameOrder.{child, behind, subtree_within, order, root}
use Rattle.cable_tree.specs.Hops.{lap, lap_to}
use Rattle.cable_tree.specs.PathSums.{detour_to, earlier, span_within, span, arrive_step, arrive_within, arrive, back_from, port_time, round_trip}
use Rattle.cable_tree.proofs.Children.{at_spot, child_hangs, child_is, root_of}
use Rattle.cable_tree.proofs.Levels.{none_some, some_same}
use Rattle.cable_tree.proofs.Members.{order_whole}
use Rattle.cable_tree.proofs.Rising.{order_within}
use Rattle.cable_tree.specs.Positions.{position_of, by_position, placed, places, renumbered_row, renumbered}
use Rattle.cable_tree.proofs.Standing.{position_at, position_within, order_at}

-- places by position
by_none : (rows : List Row) (place : Option Above) → by_position rows place ≡ None → place ≡ None
by_none rows None e = refl
by_none rows (Some a) e = absurd (none_some (record { row = position_of rows a.row; port = a.port }) (sym e))

by_some : (rows : List Row) (place : Option Above) (b : Above) → by_position rows place ≡ Some b
    → (a : Above) × (place ≡ Some a) × (b.row ≡ position_of rows a.row) × (b.port ≡ a.port)
by_some rows None b e = absurd (none_some b e)
by_some rows (Some a) b e =
    let same : b ≡ record { row = position_of rows a.row; port = a.port } = sym (some_same e) in
    (a, refl, ap (λ (x : Above). x.row) same, ap (λ (x : Above). x.port) same)

module _ (rows : List Row) (tree : IsTree rows) (slaves : All IsRow rows) where
  pub whole : length (renumbered rows) ≡ length rows
  whole = length-map (order rows) (renumbered_row rows) ∙ order_whole rows tree slaves

  within_order : (i : ℕ) → i < length (renumbered rows) → i < length (order rows)
  within_order i less = let count = length-map (order rows) (renumbered_row rows) in omega arith

  within_others : (r : ℕ) → r < length rows → position_of rows r < length (renumbered rows)
  within_others r within = let less = position_within rows tree slaves r within in let count = length-map (order rows) (renumbered_row rows) in omega arith

  -- what stands at a position
  row_there : (i : ℕ) → i < length (order rows) → row_at (renumbered rows) i ≡ renumbered_row rows (slice_index (order rows) i)
  row_there i within = get_or-map (renumbered_row rows) (order rows) i 0 no_row within

  pub row_here : (r : ℕ) → r < length rows → row_at (renumbered rows) (position_of rows r) ≡ renumbered_row rows r
  row_here r within = row_there (position_of rows r) (position_within rows tree slaves r within) ∙ ap (renumbered_row rows) (order_at rows tree slaves r within)

  above_there : (i : ℕ) → i < length (order rows) → above (renumbered rows) i ≡ by_position rows (above rows (slice_index (order rows) i))
  above_there i within = ap (λ (row : Row). row.above) (row_there i within)

  pub above_here : (r : ℕ) → r < length rows → above (renumbered rows) (position_of rows r) ≡ by_position rows (above rows r)
  above_here r within = ap (λ (row : Row). row.above) (row_here r within)

  -- rows and positions are one to one
  pub same_row : (q r : ℕ) → q < length rows → r < length rows → position_of rows q ≡ position_of rows r → q ≡ r
  same_row q r lq lr e = sym (order_at rows tree slaves q lq) ∙ ap (slice_index (order rows)) e ∙ order_at rows tree slaves r lr

  same_position : (i j : ℕ) → i < length (order rows) → j < length (order rows) → slice_index (order rows) i ≡ slice_index (order rows) j → i ≡ j
  same_position i j li lj e = sym (position_at rows tree slaves i li) ∙ ap (position_of rows) e ∙ position_at rows tree slaves j lj

  visited_within : (i : ℕ) → i < length (order rows) → slice_index (order rows) i < length rows
  visited_within = order_within rows tree slaves

  leads_at : (s : ℕ) (o : Option Above) → ((a : Above) → o ≡ Some a → LeadsToRoot rows s a.row → LeadsToRoot (renumbered rows) s (position_of rows a.row))
      → MatchOption o (Unit {0}) (λ a. LeadsToRoot rows s a.row) → MatchOption (by_position rows o) (Unit {0}) (λ a. LeadsToRoot (renumbered rows) s a.row)
  leads_at s None higher h = tt
  leads_at s (Some a) higher h = higher a refl h

  leads_on : (s r : ℕ) → r < length rows → LeadsToRoot rows s r → LeadsToRoot (renumbered rows) s (position_of rows r)
  unfolding LeadsToRoot
  leads_on zero r within leads = leads
  leads_on (suc s) r within leads =
      subst (λ o. MatchOption o (Unit {0}) (λ a. LeadsToRoot (renumbered rows) s a.row)) (sym (above_here r within))
      (leads_at s (above rows r) (λ a e h. leads_on s a.row (tree.parents r a within e) h) leads)

  pub is_tree : IsTree (renumbered rows)
  is_tree = record {
    some = let some = tree.some in let n = whole in omega arith;
    parents = λ i b less e.
        let low = within_order i less in
        let a = by_some rows (above rows (slice_index (order rows) i)) b (sym (above_there i low) ∙ e) in
        let inside = within_others a.0.row (tree.parents (slice_index (order rows) i) a.0 (visited_within i low) a.1) in
        let is = a.2 in
        omega arith;
    root =
        let top = root_of rows tree in
        (position_of rows (root rows), within_others (root rows) top.0, above_here (root rows) top.0 ∙ ap (by_position rows) top.1);
    one_root = λ i j li lj ei ej.
        let wi = within_order i li in
        let wj = within_order j lj in
        same_position i j wi wj
        (tree.one_root (slice_index (order rows) i) (slice_index (order rows) j) (visited_within i wi) (visited_within j wj)
        (by_none rows (above rows (slice_index (order rows) i)) (sym (above_there i wi) ∙ ei))
        (by_none rows (above rows (slice_index (order rows) j)) (sym (above_there j wj) ∙ ej)));
    ports = λ i j b li lj ei ej.
        let wi = within_order i li in
        let wj = within_order j lj in
        let p = by_some rows (above rows (slice_index (order rows) i)) b (sym (above_there i wi) ∙ ei) in
        let q = by_some rows (above rows (slice_index (order rows) j)) b (sym (above_there j wj) ∙ ej) in
        let inside_p = tree.parents (slice_index (order rows) i) p.0 (visited_within i wi) p.1 in
        let inside_q = tree.parents (slice_index (order rows) j) q.0 (visited_within j wj) q.1 in
        let row : q.0.row ≡ p.0.row = same_row q.0.row p.0.row inside_q inside_p (sym q.2 ∙ p.2) in
        let port : q.0.port ≡ p.0.port = sym q.3 ∙ p.3 in
        let same : Some (at_spot q.0.row q.0.port) ≡ Some (at_spot p.0.row p.0.port) = ap₂ (λ x y. Some (at_spot x y)) row port in
        same_position i j wi wj
        (tree.ports (slice_index (order rows) i) (slice_index (order rows) j) p.0 (visited_within i wi) (visited_within j wj) p.1 (q.1 ∙ same));
    leads = λ i less.
        let low = within_order i less in
        let r = slice_index (order rows) i in
        let there = leads_on (length rows) r (visited_within i low) (tree.leads r (visited_within i low)) in
        subst (λ n. LeadsToRoot (renumbered rows) n i) (sym whole)
        (subst (λ j. LeadsToRoot (renumbered rows) (length rows) j) (position_at rows tree slaves i low) there);
  }

  row_kept : (row : Row) (place : Option Above) → IsRow row → IsRow (record row { above = place })
  row_kept row place h = record { tp_some = h.tp_some; tp_most = h.tp_most; tf_some = h.tf_some; tf_most = h.tf_most; cable_most = h.cable_most }

  pub are_slaves : All IsRow (renumbered rows)
  are_slaves =
      All-from_get_or IsRow (renumbered rows) no_row
      (λ i less.
      let low = within_order i less in
      let r = slice_index (order rows) i in
      subst IsRow (sym (row_there i low)) (row_kept (row_at rows r) (placed rows r) (All-get_or IsRow rows r no_row (visited_within i low) slaves)))

  -- the children
  child_there : (r : ℕ) → r < length rows → (p : Port) (k : ℕ) → child rows r p ≡ Some k → child (renumbered rows) (position_of rows r) p ≡ Some (position_of rows k)
  child_there r within p k e =
      let is = child_hangs rows r p k e in
      child_is (renumbered rows) is_tree (position_of rows r) p (position_of rows k) (within_others k is.0) (above_here k is.0 ∙ ap (by_position rows) is.1)

  child_back : (r : ℕ) → r < length rows → (p : Port) (j : ℕ) → child (renumbered rows) (position_of rows r) p ≡ Some j → child rows r p ≡ Some (slice_index (order rows) j)
  child_back r within p j e =
      let is = child_hangs (renumbered rows) (position_of rows r) p j e in
      let low = within_order j is.0 in
      let k = slice_index (order rows) j in
      let a = by_some rows (above rows k) (at_spot (position_of rows r) p) (sym (above_there j low) ∙ is.1) in
      let row : a.0.row ≡ r = same_row a.0.row r (tree.parents k a.0 (visited_within j low) a.1) within (sym a.2) in
      let same : Some (at_spot a.0.row a.0.port) ≡ Some (at_spot r p) = ap₂ (λ x y. Some (at_spot x y)) row (sym a.3) in
      child_is rows tree r p k (visited_within j low) (a.1 ∙ same)

  pub children : (r : ℕ) → r < length rows → (p : Port) → child (renumbered rows) (position_of rows r) p ≡ option_map (position_of rows) (child rows r p)
  children r within p = by (child rows r p) refl (child (renumbered rows) (position_of rows r) p) refl
    where
      by : (o : Option ℕ) → child rows r p ≡ o → (o' : Option ℕ) → child (renumbered rows) (position_of rows r) p ≡ o'
          → child (renumbered rows) (position_of rows r) p ≡ option_map (position_of rows) o
      by (Some k) e o' e' = child_there r within p k e
      by None e None e' = e'
      by None e (Some j) e' = absurd (none_some (slice_index (order rows) j) (sym e ∙ child_back r within p j e'))

  -- the numbers of a row
  tp_here : (r : ℕ) → r < length rows → tp (renumbered rows) (position_of rows r) ≡ tp rows r
  tp_here r within = ap (λ (row : Row). 1000000 * row.tp_ns) (row_here r within)

  tf_here : (r : ℕ) → r < length rows → tf (renumbered rows) (position_of rows r) ≡ tf rows r
  tf_here r within = ap (λ (row : Row). 1000000 * row.tf_ns) (row_here r within)

  cable_here : (r : ℕ) → r < length rows → cable (renumbered rows) (position_of rows r) ≡ cable rows r
  cable_here r within = ap (λ (row : Row). 1000 * row.cable_ps) (row_here r within)

  detour_at : (f g : ℕ → ℕ) (r : ℕ) → r < length rows → (o : Option ℕ) → ((k : ℕ) → o ≡ Some k → (k < length rows) × (f (position_of rows k) ≡ g k))
      → detour_to (renumbered rows) f (position_of rows r) (option_map (position_of rows) o) ≡ detour_to rows g r o
  detour_at f g r within None known = refl
  detour_at f g r within (Some k) known =
      let is = known k refl in
      let way = cable_here k is.0 in
      let more = tf_here r within in
      let span = is.1 in
      omega (arith, way, more, span)

  detour_here : (f g : ℕ → ℕ) (r : ℕ) → r < length rows → ((k : ℕ) → k < length rows → f (position_of rows k) ≡ g k)
      → (p : Port) → detour_to (renumbered rows) f (position_of rows r) (child (renumbered rows) (position_of rows r) p) ≡ detour_to rows g r (child rows r p)
  detour_here f g r within same p =
      ap (detour_to (renumbered rows) f (position_of rows r)) (children r within p)
      ∙ detour_at f g r within (child rows r p) (λ k e. let low = (child_hangs rows r p k e).0 in (low, same k low))

  span_levels : (levels r : ℕ) → r < length rows → span_within (renumbered rows) levels (position_of rows r) ≡ span_within rows levels r
  unfolding span_within
  span_levels zero r within = refl
  span_levels (suc levels) r within =
      let three = detour_here (span_within (renumbered rows) levels) (span_within rows levels) r within (span_levels levels) P3 in
      let one = detour_here (span_within (renumbered rows) levels) (span_within rows levels) r within (span_levels levels) P1 in
      let two = detour_here (span_within (renumbered rows) levels) (span_within rows levels) r within (span_levels levels) P2 in
      let first = tp_here r within in
      omega (arith, three, one, two, first)

  pub span_here : (r : ℕ) → r < length rows → span (renumbered rows) (position_of rows r) ≡ span rows r
  span_here r within = ap (λ n. span_within (renumbered rows) n (position_of rows r)) whole ∙ span_levels (length rows) r within

  earlier_here : (r : ℕ) → r < length rows → (p : Port) → earlier (renumbered rows) (position_of rows r) p ≡ earlier rows r p
  earlier_here r within P3 = refl
  earlier_here r within P1 = detour_here (span (renumbered rows)) (span rows) r within span_here P3
  earlier_here r within P2 =
      ap₂ (λ x y. x + y) (detour_here (span (renumbered rows)) (span rows) r within span_here P3) (detour_here (span (renumbered rows)) (span rows) r within span_here P1)

  arrive_at : (f g : ℕ → ℕ) (r : ℕ) → r < length rows → (o : Option Above) → ((a : Above) → o ≡ Some a → (a.row < length rows) × (f (position_of rows a.row) ≡ g a.row))
      → arrive_step (renumbered rows) f (position_of rows r) (by_position rows o) ≡ arrive_step rows g r o
  arrive_at f g r within None known = cable_here r within
  arrive_at f g r within (Some a) known =
      let is = known a refl in
      let way = cable_here r within in
      let first = tp_here a.row is.0 in
      let before = earlier_here a.row is.0 a.port in
      let start = is.1 in
      omega (arith, way, first, before, start)

  arrive_steps : (s r : ℕ) → r < length rows → arrive_within (renumbered rows) s (position_of rows r) ≡ arrive_within rows s r
  unfolding arrive_within
  arrive_steps zero r within = refl
  arrive_steps (suc s) r within =
      ap (arrive_step (renumbered rows) (arrive_within (renumbered rows) s) (position_of rows r)) (above_here r within)
      ∙ arrive_at (arrive_within (renumbered rows) s) (arrive_within rows s) r within (above rows r)
      (λ a e. let low = tree.parents r a within e in (low, arrive_steps s a.row low))

  pub arrive_here : (r : ℕ) → r < length rows → arrive (renumbered rows) (position_of rows r) ≡ arrive rows r
  arrive_here r within = ap (λ n. arrive_within (renumbered rows) n (position_of rows r)) whole ∙ arrive_steps (length rows) r within

  back_at : (o : Option ℕ) → ((k : ℕ) → o ≡ Some k → k < length rows) → back_from (renumbered rows) (option_map (position_of rows) o) ≡ back_from rows o
  back_at None known = refl
  back_at (Some k) known =
      let low = known k refl in
      let a = arrive_here k low in
      let b = span_here k low in
      let c = cable_here k low in
      ap Some (omega (arith, a, b, c))

  pub port_time_here : (r : ℕ) → r < length rows → (p : Port) → port_time (renumbered rows) (position_of rows r) p ≡ port_time rows r p
  port_time_here r within p = ap (back_from (renumbered rows)) (children r within p) ∙ back_at (child rows r p) (λ k e. (child_hangs rows r p k e).0)

  lap_at : (r start : ℕ) → r < length rows → (o : Option ℕ) → ((k : ℕ) → o ≡ Some k → k < length rows)
      → lap_to (renumbered rows) (position_of rows r) start (option_map (position_of rows) o) ≡ lap_to rows r start o
  lap_at r start within None known = refl
  lap_at r start within (Some k) known =
      let low = known k refl in
      let first = tp_here r within in
      let way = cable_here k low in
      let there = span_here k low in
      omega (arith, first, way, there)

  pub lap_here : (r : ℕ) → r < length rows → (p : Port) → lap (renumbered rows) (position_of rows r) p ≡ lap rows r p
  lap_here r within p =
      ap₂ (lap_to (renumbered rows) (position_of rows r)) (earlier_here r within p) (children r within p)
      ∙ lap_at r (earlier rows r p) within (child rows r p) (λ k e. (child_hangs rows r p k e).0)

  -- the root and the frame order
  root_here : root (renumbered rows) ≡ position_of rows (root rows)
  root_here =
      let top = root_of (renumbered rows) is_tree in
      let true_top = root_of rows tree in
      is_tree.one_root (root (renumbered rows)) (position_of rows (root rows)) top.0 (within_others (root rows) true_top.0) top.1
      (above_here (root rows) true_top.0 ∙ ap (by_position rows) true_top.1)

  behind_at : (f g : ℕ → List ℕ) (o : Option ℕ) → ((k : ℕ) → o ≡ Some k → f (position_of rows k) ≡ map (position_of rows) (g k))
      → behind f (option_map (position_of rows) o) ≡ map (position_of rows) (behind g o)
  behind_at f g None known = refl
  behind_at f g (Some k) known = known k refl

  order_levels : (levels r : ℕ) → r < length rows → subtree_within (renumbered rows) levels (position_of rows r) ≡ map (position_of rows) (subtree_within rows levels r)
  unfolding subtree_within
  order_levels zero r within = refl
  order_levels (suc levels) r within =
      let f = subtree_within (renumbered rows) levels in
      let g = subtree_within rows levels in
      let part : (p : Port) → behind f (child (renumbered rows) (position_of rows r) p) ≡ map (position_of rows) (behind g (child rows r p))
      = λ p. ap (behind f) (children r within p) ∙ behind_at f g (child rows r p) (λ k e. order_levels levels k (child_hangs rows r p k e).0) in
      let a = behind g (child rows r P3) in
      let b = behind g (child rows r P1) in
      let c = behind g (child rows r P2) in
      ap (λ t. position_of rows r ∷ t)
      (ap₂ (λ x y. x ++ y) (ap₂ (λ x y. x ++ y) (part P3) (part P1)) (part P2)
      ∙ ap (λ t. t ++ map (position_of rows) c) (sym (map-append (position_of rows) a b)) ∙ sym (map-append (position_of rows) (a ++ b) c))

  positions_count : map (position_of rows) (order rows) ≡ range_with_len 0 (length rows)
  positions_count =
      let n = order_whole rows tree slaves in
      let left = length-map (order rows) (position_of rows) in
      let right = length-range_with_len 0 (length rows) in
      same_number_lists (map (position_of rows) (order rows)) (range_with_len 0 (length rows)) (left ∙ n ∙ sym right)
      (λ i less.
      let low : i < length (order rows) = omega arith in
      let low' : i < length rows = omega arith in
      get_or-map (position_of rows) (order rows) i 0 0 low ∙ position_at rows tree slaves i low ∙ sym (get_or-range_with_len 0 (length rows) i 0 low' ∙ zero-add i))

  -- each slave stands at its position
  pub order_moved : order (renumbered rows) ≡ map (position_of rows) (order rows)
  order_moved =
      ap (subtree_within (renumbered rows) (length (renumbered rows))) root_here
      ∙ ap (λ n. subtree_within (renumbered rows) n (position_of rows (root rows))) whole
      ∙ order_levels (length rows) (root rows) (root_of rows tree).0

  pub order_here : order (renumbered rows) ≡ range_with_len 0 (length rows)
  order_here = order_moved ∙ positions_count

  pub round_trip_here : round_trip (renumbered rows) ≡ round_trip rows
  round_trip_here =
      let top = (root_of rows tree).0 in
      ap (λ r. 2 * cable (renumbered rows) r + span (renumbered rows) r) root_here
      ∙ ap₂ (λ x y. 2 * x + y) (cable_here (root rows) top) (span_here (root rows) top)

pub places_kept : (rows : List Row) → map (λ (row : Row). row.above) (renumbered rows) ≡ places rows
places_kept rows = on (order rows)
  where
    on : (xs : List ℕ) → map (λ (row : Row). row.above) (map (renumbered_row rows) xs) ≡ map (placed rows) xs
    on [] = refl
    on (x ∷ xs) = ap (λ t. placed rows x ∷ t) (on xs)
