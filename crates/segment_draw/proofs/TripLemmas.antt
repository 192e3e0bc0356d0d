-- The round trip of a drawn segment is shorter than its frame period: less than a quarter of it.
use Rattle.std.proofs.Common.{◌≡◌, ◌∙◌, ap, refl, ℕ, suc, ◌+◌, ◌*◌, ◌<◌, ◌≤◌, List, length, take, Option, Some, None, arith}
use Rattle.std.proofs.lemmas.List.{get_or-map, length-append}
use Rattle.cable_tree.specs.declared.port.Port.{Port}
use Rattle.cable_tree.specs.declared.port.Port.TheVariants.{P1, P2, P3}
use Rattle.cable_tree.specs.Row.{Row, no_row, row_at, tp, tf, cable}
use Rattle.cable_tree.specs.FrameOrder.{behind, child, root, subtree}
use Rattle.cable_tree.specs.PathSums.{detour_to, span, round_trip}
use Rattle.cable_tree.proofs.Exported.{child_hangs, root_of, tree_induction, subtree_is, span_is, subtree_few}
use Rattle.segment_file.specs.Segment.{RowValue, tree_row, tree_rows}
use Rattle.segment_draw.specs.Generated.{row_of}
use Rattle.segment_draw.proofs.TreeLemmas.{AreDrawn, no_value, many, are_tree}
use Rattle.segment_draw.proofs.MeasureLemmas.{are_segment}

module _ (rows : List RowValue) (drawn : AreDrawn rows) where
  row_is : (k : ℕ) → (low : k < length rows) → row_at (tree_rows rows) k ≡ tree_row (row_of (take k rows) (drawn.made k no_value low).draws)
  row_is k low = get_or-map tree_row rows k no_value no_row low ∙ ap tree_row (drawn.made k no_value low).is

  tp_most : (k : ℕ) → k < length rows → tp (tree_rows rows) k ≤ 349000000
  tp_most k low = let is = ap (λ (r : Row). r.tp_ns) (row_is k low) in omega (arith, is)

  tf_most : (k : ℕ) → k < length rows → tf (tree_rows rows) k ≤ 329000000
  tf_most k low = let is = ap (λ (r : Row). r.tf_ns) (row_is k low) in omega (arith, is)

  cable_most : (k : ℕ) → k < length rows → cable (tree_rows rows) k ≤ 100000000
  cable_most k low = let is = ap (λ (r : Row). r.cable_ps) (row_is k low) in omega (arith, is)

  -- a slave adds 878 ns at most
  abbrev IsShort : ℕ → Type 0
  IsShort r = span (tree_rows rows) r + 529000000 ≤ length (subtree (tree_rows rows) r) * 878000000

  port_short : (r : ℕ) (o : Option ℕ) → r < length rows → ((k : ℕ) → o ≡ Some k → (k < length rows) × IsShort k)
      → detour_to (tree_rows rows) (span (tree_rows rows)) r o ≤ length (behind (subtree (tree_rows rows)) o) * 878000000
  port_short r None low known = omega arith
  port_short r (Some k) low known = let is = known k refl in omega (arith, is, cable_most k is.0, tf_most r low)

  step : (r : ℕ) → r < length (tree_rows rows) → ((p : Port) (k : ℕ) → child (tree_rows rows) r p ≡ Some k → IsShort k) → IsShort r
  step r low children =
      let T = tree_rows rows in
      let within : r < length rows = omega (arith, low, many rows drawn) in
      let known : (p : Port) (k : ℕ) → child T r p ≡ Some k → (k < length rows) × IsShort k =
      λ p k e. (omega (arith, (child_hangs T r p k e).0, many rows drawn), children p k e) in
      let three = port_short r (child T r P3) within (known P3) in
      let one = port_short r (child T r P1) within (known P1) in
      let two = port_short r (child T r P2) within (known P2) in
      let is = span_is T (are_tree rows drawn) r low in
      let size : length (subtree T r) ≡ suc (length (behind (subtree T) (child T r P3)) + (length (behind (subtree T) (child T r P1)) + length (behind (subtree T) (child T r P2)))) =
      ap length (subtree_is T (are_tree rows drawn) r low) ∙ simp length-append (omega arith) in
      let own = tp_most r within in
      omega arith

  pub trip_short : round_trip (tree_rows rows) < 1000000000000
  trip_short =
      let T = tree_rows rows in
      let segment = are_segment rows drawn in
      let top = (root_of T (are_tree rows drawn)).0 in
      let within : root T < length rows = omega (arith, top, many rows drawn) in
      let short : IsShort (root T) = tree_induction T (are_tree rows drawn) IsShort step (root T) top in
      let few = subtree_few T (are_tree rows drawn) segment.slaves (root T) top in
      let least = segment.few in
      let way = cable_most (root T) within in
      omega arith
