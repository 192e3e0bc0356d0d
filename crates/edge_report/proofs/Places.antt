-- The slaves of a segment by position.
use Rattle.std.specs.Prelude.{◌≡◌, ℕ, ◌<◌, ◌≤◌, Option, Some, None, IfSome, is_some, unwrap_or, List, length, map, slice_index_or}
use Rattle.std.proofs.Common.{ap, sym, ◌∙◌, arith}
use Rattle.std.proofs.lemmas.List.Elements.{All-get_or}
use Rattle.std.proofs.lemmas.List.{get_or-map, length-map}
use Rattle.cable_tree.specs.FrameOrder.{order}
use Rattle.cable_tree.specs.Positions.{position_of}
use Rattle.cable_tree.specs.Row.{Row}
use Rattle.cable_tree.proofs.Exported.{order_whole, position_at}
use Rattle.segment_bounds.specs.Bounds.{reference_row_of}
use Rattle.segment_file.specs.Legal.{IsClock, IsLegal}
use Rattle.segment_file.specs.Seen.{row_seen}
use Rattle.segment_file.specs.Segment.{SegmentValue, clock_at, no_row, reference_row, row_at, tree_row, tree_rows}
use Rattle.segment_file.specs.declared.slave_row.SlaveRow.{SlaveRow}
use Rattle.edge_report.specs.Delays.{AreDelays}
use Rattle.edge_report.specs.Shifts.{HasSmallShifts}
use Rattle.edge_report.specs.Slaves.{reference_position, slave_at}

-- a row of the segment, as it is seen
pub seen_at : (s : SegmentValue) (rows : List SlaveRow) (p r : ℕ) (d : SlaveRow) → map row_seen rows ≡ s.rows → r ≡ row_at s p → r < length s.rows → d ≡ slice_index_or rows r d
    → row_seen d ≡ slave_at s p
unfolding slave_at
seen_at s rows p r d e at low is =
    let n : length (map row_seen rows) ≡ length s.rows = ap length e in
    ap row_seen is ∙ sym (get_or-map row_seen rows r d no_row (omega (arith, n, length-map rows row_seen))) ∙ ap (λ xs. slice_index_or xs r no_row) e ∙ ap (λ i. slice_index_or s.rows i no_row) at

-- the row of the reference is where the reference stands
pub reference_at : (s : SegmentValue) (p q : ℕ) → IsLegal s → reference_row s.rows ≡ Some q → p < length (order (tree_rows s.rows)) → row_at s p ≡ q
    → p ≡ reference_position s
unfolding reference_position
reference_at s p q legal e low at =
    let is : row_at s p ≡ reference_row_of s = at ∙ sym (ap (λ (o : Option ℕ). unwrap_or o 0) e) in
    sym (position_at (tree_rows s.rows) legal.tree.tree legal.tree.slaves p low) ∙ ap (position_of (tree_rows s.rows)) is

-- there is an entry for each slave
pub delays_many : (s : SegmentValue) (delays : List (Option ℕ)) → IsLegal s → AreDelays s delays → length delays ≡ length s.rows
delays_many s delays legal are =
    let n : length (map is_some delays) ≡ length (map (clock_at s.rows) (order (tree_rows s.rows))) = ap length are in
    omega (
      arith,
      n,
      length-map delays is_some,
      length-map (order (tree_rows s.rows)) (clock_at s.rows),
      order_whole (tree_rows s.rows) legal.tree.tree legal.tree.slaves,
      length-map s.rows tree_row,
    )

-- the tree has a slave for each row
pub slaves_many : (s : SegmentValue) (rows : List Row) → rows ≡ tree_rows s.rows → length rows ≡ length s.rows
slaves_many s rows e = ap length e ∙ length-map s.rows tree_row

-- the shifts of a slave of a legal segment are small
pub small_shifts : (s : SegmentValue) (p : ℕ) → IsLegal s → row_at s p < length s.rows → HasSmallShifts (slave_at s p)
unfolding slave_at
small_shifts s p legal low =
    let clock : IsClock s.head.cycle_ns (slice_index_or s.rows (row_at s p) no_row) = All-get_or (IsClock s.head.cycle_ns) s.rows (row_at s p) no_row low legal.clocks in
    record { shift_ns = omega (arith, clock.shift_ns, legal.head.cycle_ns.1); sync1_ns = below (slice_index_or s.rows (row_at s p) no_row).sync1_ns clock.sync1_ns }
  where
    below : (o : Option ℕ) → IfSome o (λ ns. (1 ≤ ns) × (ns < s.head.cycle_ns)) → IfSome o (λ ns. ns < 500000000)
    below None h = tt
    below (Some ns) h = omega (arith, h.1, legal.head.cycle_ns.1)
