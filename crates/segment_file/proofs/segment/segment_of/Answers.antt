use Rattle.std.proofs.Common.{◌≡◌, map, sym, subst, ap}
use Rattle.std.specs.Prelude.{Some}
use Rattle.std.specs.List.{All}
use Rattle.cable_tree.specs.Row.{IsRow}
use Rattle.segment_shape.specs.Seen.{head_seen, shape_seen}
use Rattle.segment_file.specs.Seen.{row_seen, counts_seen}
use Rattle.segment_file.specs.Segment.{tree_row, tree_rows, reference_row, counts_of}
use Rattle.segment_file.proofs.RowLemmas.{all_before_map, rows_of_slaves, legal_rows}
use Rattle.segment_file.proofs.segment.segment_of.Goals as goal

pub tree_of-requires-clause-rows : goal.tree_of-requires-clause-rows
tree_of-requires-clause-rows c =
    let shape = shape_seen c.args.shape in
    let rows = c.in_ok-rows.rows.items in
    let all = subst (λ rs. All IsRow (tree_rows rs)) (sym c.in_ok-rows.ensures) (rows_of_slaves shape.head.version shape.head.cycle_ns shape.slaves c.requires.file.slaves) in
    subst (All (λ r. IsRow (tree_row (row_seen r)))) (sym c.deref.ensures.value)
    (all_before_map (λ r. IsRow (tree_row r)) row_seen rows (all_before_map IsRow tree_row (map row_seen rows) all))

pub invariant_of-result : goal.invariant_of-result
invariant_of-result c = record {
  legal = legal_rows (shape_seen c.args.shape) c.requires.said.0 c.requires.said.1 (map row_seen c.in_ok-rows.rows.items) c.in_ok-rows.ensures
      (rw c.deref.ensures.value at c.in_ok-tree.ensures.valid) (rw c.deref-2.ensures.value at c.in_ok-checked.ensures.ok);
  tree = subst (λ rs. c.in_ok-tree.tree ≡ tree_rows (map row_seen rs)) c.deref.ensures.value c.in_ok-tree.ensures.ok;
  reference = subst (λ rs. reference_row (map row_seen rs) ≡ Some c.in_ok-checked.checked.reference) c.deref-2.ensures.value c.in_ok-checked.ensures.reference;
  counts = subst (λ rs. counts_seen c.in_ok-checked.checked.counts ≡ counts_of (map row_seen rs)) c.deref-2.ensures.value c.in_ok-checked.ensures.counts;
}

pub returns-clause-ok : goal.returns-clause-ok
returns-clause-ok c =
    let head = head_seen c.args.shape.head in (
      ap (λ rs. record { head = head; rows = rs; losses = c.args.shape.losses }) c.in_ok-rows.ensures,
      legal_rows (shape_seen c.args.shape) c.requires.said.0 c.requires.said.1 (map row_seen c.in_ok-rows.rows.items) c.in_ok-rows.ensures
          (rw c.deref.ensures.value at c.in_ok-tree.ensures.valid) (rw c.deref-2.ensures.value at c.in_ok-checked.ensures.ok),
    )
