-- Rows that hang alike, and rows that differ in their cables alone.
use Rattle.std.specs.Prelude.{◌≡◌, ℕ, suc, zero, ◌+◌, ◌/◌, Bool, not, nat_le, nat_lt, if◌then◌else◌, Option, Some, None, List, [], ◌∷◌, ◌++◌, drop, filter, length, map, slice_index_or}
use Rattle.std.specs.List.{find, position, position_or_len}
use Rattle.std.specs.Option.{is_some}
use Rattle.std.proofs.Common.{arith, refl, sym, ap, ◌∙◌, cond}
use Rattle.std.proofs.Math.Path.{fun_ext}
use Rattle.std.proofs.Math.ListN.{get_or-map}
use Rattle.std.proofs.lemmas.List.{length-map}
use Rattle.cable_tree.specs.declared.port.Above.{Above}
use Rattle.cable_tree.specs.declared.port.Port.{Port}
use Rattle.cable_tree.specs.declared.port.Port.TheVariants.{P1, P2, P3}
use Rattle.cable_tree.specs.Row.{Row, no_row, above}
use Rattle.cable_tree.specs.FrameOrder.{is_at, is_nowhere, child, behind, subtree_within, order, root}
use Rattle.cable_tree.specs.Hops.{or_before, previous, last_port}
use Rattle.dc_bounds.specs.Weight.{measuring_step, measuring_within, measuring_parent}
use Rattle.dc_bounds.specs.Measurable.{branches, is_measured_step, is_measured_within, is_measurable, unmeasurable}
use Rattle.dc_delay.specs.ShapeRows.{hanging, row_of, rows_of, places_of, kind_of, kinds_of, tp_ns, tf_ns}
use Rattle.dc_delay.specs.MeasuredDelay.{latched_before, forwarding_ns, turn_by, passed_step, passed_within, passed, hop_ahead, hop_back, summed_step, summed_within, summed, ahead, back, delay_from, delay, delays_from, delay_list}

-- the first row that passes a test of where it hangs
module _ (f : Row → Row) (keeps : (row : Row) → (f row).above ≡ row.above) where
  first_kept : (test : Option Above → Bool) (rows : List Row) → position_or_len (λ row. test row.above) (map f rows) ≡ position_or_len (λ (row : Row). test row.above) rows
  first_kept test [] = refl
  first_kept test (row ∷ rows) =
      ap (λ o. cond (not (test o)) (1 + position_or_len (λ (row : Row). test row.above) (map f rows)) 0) (keeps row)
      ∙ ap (λ n. cond (not (test row.above)) (1 + n) 0) (first_kept test rows)

  found_kept : (test : Option Above → Bool) (rows : List Row) → position (λ row. test row.above) (map f rows) ≡ position (λ (row : Row). test row.above) rows
  found_kept test rows =
      ap (λ n. cond (nat_lt n (length (map f rows))) (Some n) None) (first_kept test rows)
      ∙ ap (λ n. cond (nat_lt (position_or_len (λ (row : Row). test row.above) rows) n) (Some (position_or_len (λ (row : Row). test row.above) rows)) None) (length-map rows f)

-- rows that hang alike
pub record HangAlike (rows others : List Row) : Type 0 where
  pub whole : length rows ≡ length others
  pub above : (r : ℕ) → above rows r ≡ above others r
  pub child : (r : ℕ) (p : Port) → child rows r p ≡ child others r p
  pub root : root rows ≡ root others

hang_kept : (f : Row → Row) → ((row : Row) → (f row).above ≡ row.above) → f no_row ≡ no_row → (rows : List Row) → HangAlike (map f rows) rows
unfolding child root
hang_kept f keeps none rows = record {
  whole = length-map rows f;
  above = λ r. ap (λ (row : Row). (slice_index_or (map f rows) r row).above) (sym none) ∙ ap (λ (row : Row). row.above) (get_or-map f rows r no_row) ∙ keeps (slice_index_or rows r no_row);
  child = λ r p. found_kept f keeps (is_at r p) rows;
  root = first_kept f keeps is_nowhere rows;
}

-- a row without its cable, and without all its times
abbrev bare : Row → Row
bare row = row_of row.above (kind_of row)

bare_rows : (rows : List Row) → rows_of (places_of rows) (kinds_of rows) ≡ map bare rows
bare_rows [] = refl
bare_rows (row ∷ rows) = ap (λ xs. bare row ∷ xs) (bare_rows rows)

abbrev timeless : Row → Row
timeless row = row_of row.above (record { tp_ns = 0; tf_ns = 0 })

timeless_rows : (rows : List Row) → hanging (places_of rows) ≡ map timeless rows
timeless_rows [] = refl
timeless_rows (row ∷ rows) = ap (λ xs. timeless row ∷ xs) (timeless_rows rows)

module _ (rows others : List Row) (alike : HangAlike rows others) where
  previous_same : (r : ℕ) (p : Port) → previous rows r p ≡ previous others r p
  previous_same r P3 = refl
  previous_same r P1 = ap (λ o. or_before P3 o None) (alike.child r P3)
  previous_same r P2 = ap (λ o. or_before P1 o (or_before P3 (child rows r P3) None)) (alike.child r P1) ∙ ap (λ o. or_before P1 (child others r P1) (or_before P3 o None)) (alike.child r P3)

  last_same : (r : ℕ) → last_port rows r ≡ last_port others r
  last_same r = ap (λ o. or_before P2 o (previous rows r P2)) (alike.child r P2) ∙ ap (or_before P2 (child others r P2)) (previous_same r P2)

  branches_same : (r : ℕ) → branches rows r ≡ branches others r
  branches_same r =
      ap (λ o. nat_le 2 ((if is_some o then 1 else 0) + (if is_some (child rows r P1) then 1 else 0) + (if is_some (child rows r P2) then 1 else 0))) (alike.child r P3)
      ∙ ap (λ o. nat_le 2 ((if is_some (child others r P3) then 1 else 0) + (if is_some o then 1 else 0) + (if is_some (child rows r P2) then 1 else 0))) (alike.child r P1)
      ∙ ap (λ o. nat_le 2 ((if is_some (child others r P3) then 1 else 0) + (if is_some (child others r P1) then 1 else 0) + (if is_some o then 1 else 0))) (alike.child r P2)

  order_levels : (levels r : ℕ) → subtree_within rows levels r ≡ subtree_within others levels r
  unfolding subtree_within
  order_levels zero r = refl
  order_levels (suc levels) r =
      let deeper : subtree_within rows levels ≡ subtree_within others levels = fun_ext (λ k. order_levels levels k) in
      ap (λ f. r ∷ (behind f (child rows r P3) ++ behind f (child rows r P1) ++ behind f (child rows r P2))) deeper
      ∙ ap (λ o. r ∷ (behind (subtree_within others levels) o ++ behind (subtree_within others levels) (child rows r P1) ++ behind (subtree_within others levels) (child rows r P2))) (alike.child r P3)
      ∙ ap (λ o. r ∷ (behind (subtree_within others levels) (child others r P3) ++ behind (subtree_within others levels) o ++ behind (subtree_within others levels) (child rows r P2))) (alike.child r P1)
      ∙ ap (λ o. r ∷ (behind (subtree_within others levels) (child others r P3) ++ behind (subtree_within others levels) (child others r P1) ++ behind (subtree_within others levels) o)) (alike.child r P2)

  pub order_same : order rows ≡ order others
  order_same =
      order_levels (length rows) (root rows) ∙ ap (λ n. subtree_within others n (root rows)) alike.whole ∙ ap (subtree_within others (length others)) alike.root

  module _ (measures : ℕ → Bool) where
    measured_steps : (steps r : ℕ) → is_measured_within rows measures steps r ≡ is_measured_within others measures steps r
    unfolding is_measured_within
    measured_steps zero r = refl
    measured_steps (suc steps) r =
        ap (λ h. is_measured_step measures (branches rows) h (above rows r)) (fun_ext (λ q. measured_steps steps q))
        ∙ ap (λ b. is_measured_step measures b (is_measured_within others measures steps) (above rows r)) (fun_ext branches_same)
        ∙ ap (is_measured_step measures (branches others) (is_measured_within others measures steps)) (alike.above r)

    measured_same : (r : ℕ) → is_measurable rows measures r ≡ is_measurable others measures r
    measured_same r = measured_steps (length rows) r ∙ ap (λ n. is_measured_within others measures n r) alike.whole

    pub unmeasurable_same : (order : List ℕ) → unmeasurable rows measures order ≡ unmeasurable others measures order
    unmeasurable_same order = ap (λ (f : ℕ → Bool). find (λ r. not (f r)) (drop 1 (filter measures order))) (fun_ext measured_same)

    parent_steps : (steps r : ℕ) → measuring_within rows measures steps r ≡ measuring_within others measures steps r
    unfolding measuring_within
    parent_steps zero r = refl
    parent_steps (suc steps) r =
        ap (λ h. measuring_step measures h (above rows r)) (fun_ext (λ q. parent_steps steps q))
        ∙ ap (measuring_step measures (measuring_within others measures steps)) (alike.above r)

    parent_same : (r : ℕ) → measuring_parent rows measures r ≡ measuring_parent others measures r
    parent_same r = parent_steps (length rows) r ∙ ap (λ n. measuring_within others measures n r) alike.whole

    passed_steps : (number number' : ℕ → ℕ) → number ≡ number' → (steps r : ℕ) → passed_within rows measures number steps r ≡ passed_within others measures number' steps r
    unfolding passed_within
    passed_steps number number' e zero r = refl
    passed_steps number number' e (suc steps) r =
        ap (λ h. passed_step measures number h (above rows r)) (fun_ext (λ q. passed_steps number number' e steps q))
        ∙ ap (λ f. passed_step measures f (passed_within others measures number' steps) (above rows r)) e
        ∙ ap (passed_step measures number' (passed_within others measures number' steps)) (alike.above r)

    passed_same : (number number' : ℕ → ℕ) → number ≡ number' → (r : ℕ) → passed rows measures number r ≡ passed others measures number' r
    passed_same number number' e r = passed_steps number number' e (length rows) r ∙ ap (λ n. passed_within others measures number' n r) alike.whole

    summed_steps : (number number' : Above → ℕ → ℕ) → ((a : Above) (r : ℕ) → number a r ≡ number' a r)
        → (hops r : ℕ) → summed_within rows measures number hops r ≡ summed_within others measures number' hops r
    unfolding summed_within
    summed_steps number number' e zero r = refl
    summed_steps number number' e (suc hops) r =
        ap (λ h. summed_step number r h (measuring_parent rows measures r)) (fun_ext (λ q. summed_steps number number' e hops q))
        ∙ ap (summed_step number r (summed_within others measures number' hops)) (parent_same r)
        ∙ by (summed_within others measures number' hops) (measuring_parent others measures r)
      where
        by : (h : ℕ → ℕ) (o : Option Above) → summed_step number r h o ≡ summed_step number' r h o
        by h None = refl
        by h (Some a) = ap (λ n. h a.row + n) (e a r)

    summed_same : (number number' : Above → ℕ → ℕ) → ((a : Above) (r : ℕ) → number a r ≡ number' a r)
        → (r : ℕ) → summed rows measures number r ≡ summed others measures number' r
    summed_same number number' e r = summed_steps number number' e (length rows) r ∙ ap (λ n. summed_within others measures number' n r) alike.whole

    module _ (tp : (r : ℕ) → tp_ns rows r ≡ tp_ns others r) (tf : (r : ℕ) → tf_ns rows r ≡ tf_ns others r) (laps : ℕ → Port → ℕ) where
      forwarding_same : (r : ℕ) (o : Option Port) → forwarding_ns rows r o ≡ forwarding_ns others r o
      forwarding_same r None = tp r
      forwarding_same r (Some q) = tf r

      turn_by_same : (r : ℕ) (o : Option Port) → turn_by rows laps r o ≡ turn_by others laps r o
      turn_by_same r None = tp r
      turn_by_same r (Some q) = ap (λ n. laps r q + n) (tf r)

      hop_ahead_same : (a : Above) (r : ℕ) → hop_ahead rows measures laps a r ≡ hop_ahead others measures laps a r
      hop_ahead_same a r =
          let before = ap (latched_before laps a.row) (previous_same a.row a.port) in
          let x = ap (forwarding_ns rows a.row) (previous_same a.row a.port) ∙ forwarding_same a.row (previous others a.row a.port) in
          let tps = passed_same (tp_ns rows) (tp_ns others) (fun_ext tp) r in
          omega (arith, before, x, tps)

      hop_back_same : (a : Above) (r : ℕ) → hop_back rows measures laps a r ≡ hop_back others measures laps a r
      hop_back_same a r =
          let tfs = passed_same (tf_ns rows) (tf_ns others) (fun_ext tf) r in
          let s = ap (turn_by rows laps r) (last_same r) ∙ turn_by_same r (last_port others r) in
          omega (arith, tfs, s)

      ahead_same : (r : ℕ) → ahead rows measures laps r ≡ ahead others measures laps r
      ahead_same = summed_same (hop_ahead rows measures laps) (hop_ahead others measures laps) hop_ahead_same

      back_same : (r : ℕ) → back rows measures laps r ≡ back others measures laps r
      back_same = summed_same (hop_back rows measures laps) (hop_back others measures laps) hop_back_same

      delay_same : (reference : Option ℕ) (r : ℕ) → delay_from rows measures laps reference r ≡ delay_from others measures laps reference r
      delay_same None r = refl
      delay_same (Some q) r =
          let a = ahead_same r in
          let b = back_same r in
          let c = ahead_same q in
          let d = back_same q in
          ap (λ n. n / 2) (omega (arith, a, b, c, d))

      pub delays_same : (timed : ℕ → Bool) (reference : Option ℕ) (order : List ℕ) → delays_from rows measures timed laps reference order ≡ delays_from others measures timed laps reference order
      delays_same timed reference order = ap (λ (d : ℕ → ℕ). map (λ r. if timed r then Some (d r) else None) order) (fun_ext (delay_same reference))

module _ (rows : List Row) where
  bare_alike : HangAlike (map bare rows) rows
  bare_alike = hang_kept bare (λ row. refl) refl rows

  tp_bare : (r : ℕ) → tp_ns (map bare rows) r ≡ tp_ns rows r
  tp_bare r = ap (λ (row : Row). row.tp_ns) (get_or-map bare rows r no_row)

  tf_bare : (r : ℕ) → tf_ns (map bare rows) r ≡ tf_ns rows r
  tf_bare r = ap (λ (row : Row). row.tf_ns) (get_or-map bare rows r no_row)

  pub shape_order : order (rows_of (places_of rows) (kinds_of rows)) ≡ order rows
  shape_order = ap order (bare_rows rows) ∙ order_same (map bare rows) rows bare_alike

  pub shape_unmeasurable : (measures : ℕ → Bool) (order : List ℕ) → unmeasurable (hanging (places_of rows)) measures order ≡ unmeasurable rows measures order
  shape_unmeasurable measures order =
      ap (λ xs. unmeasurable xs measures order) (timeless_rows rows)
      ∙ unmeasurable_same (map timeless rows) rows (hang_kept timeless (λ row. refl) refl rows) measures order

  pub shape_delays : (measures timed : ℕ → Bool) (laps : ℕ → Port → ℕ) (order : List ℕ) → delay_list (rows_of (places_of rows) (kinds_of rows)) measures timed laps order ≡ delay_list rows measures timed laps order
  shape_delays measures timed laps order =
      ap (λ xs. delay_list xs measures timed laps order) (bare_rows rows)
      ∙ delays_same (map bare rows) rows bare_alike measures tp_bare tf_bare laps timed (find timed order) order

  pub shape_delay : (measures timed : ℕ → Bool) (laps : ℕ → Port → ℕ) (order : List ℕ) (r : ℕ) → delay (rows_of (places_of rows) (kinds_of rows)) measures timed laps order r ≡ delay rows measures timed laps order r
  shape_delay measures timed laps order r =
      ap (λ xs. delay xs measures timed laps order r) (bare_rows rows)
      ∙ delay_same (map bare rows) rows bare_alike measures tp_bare tf_bare laps (find timed order) r
