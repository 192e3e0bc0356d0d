use Rattle.std.proofs.Common.{◌≡◌, ◌∙◌, refl, map, sym, subst, arith}
use Rattle.std.specs.List.{All}
use Rattle.std.specs.Option.{IsSome}
use Rattle.std.proofs.lemmas.Grind.{common_steps}
use Rattle.cable_tree.specs.Row.{IsRow}
use Rattle.segment_shape.specs.Seen.{head_seen}
use Rattle.segment_file.specs.Seen.{row_seen}
use Rattle.segment_file.specs.Segment.{tree_row, reference_row}
use Rattle.segment_file.proofs.LegalLemmas.{legal_reference}
use Rattle.segment_file.proofs.RowLemmas.{all_before_map}
use Rattle.segment_file.proofs.segment.Segment.from_rows.Goals as goal

pub tree_rows-requires : goal.tree_rows-requires
tree_rows-requires c =
    let rows = c.args.rows.items in
    subst (All (λ r. IsRow (tree_row (row_seen r)))) (sym c.deref.ensures.value)
    (all_before_map (λ r. IsRow (tree_row r)) row_seen rows (all_before_map IsRow tree_row (map row_seen rows) c.requires.tree.slaves))

pub unwrap-reference-requires : goal.unwrap-reference-requires
unwrap-reference-requires c =
    let rows = map row_seen c.args.rows.items in
    let found = legal_reference (record { head = head_seen c.args.head; rows = rows; losses = c.args.losses }) c.requires in
    let same : c.reference.result ≡ reference_row rows = grind (arith, common_steps) in
    subst IsSome (sym (same ∙ found.1)) refl
