-- Every other clock stands behind the reference in frame order.
use Rattle.std.proofs.Common.{◌≡◌, ◌≢◌, ℕ, ◌<◌, true, length, inl, inr, sym, ap, ◌∙◌, arith}
use Rattle.std.specs.Prelude.{slice_index}
use Rattle.std.proofs.lemmas.Bool.{cases_lt}
use Rattle.std.proofs.lemmas.List.{length-map}
use Rattle.cable_tree.specs.FrameOrder.{order}
use Rattle.cable_tree.specs.PathSums.{arrive}
use Rattle.cable_tree.proofs.Exported.{order_pair, order_at, row_within as position_within}
use Rattle.dc_bounds.proofs.Exported.{reference_first, reference_timed, reference_within}
use Rattle.copy_law.specs.Receipts.{IsReference}
use Rattle.honest_slaves.specs.FileSlaves.{kind_at}
use Rattle.honest_slaves.proofs.Exported.{row_has}
use Rattle.segment_file.specs.Legal.{IsLegal}
use Rattle.segment_file.specs.Segment.{SegmentValue, clock_at, row_at, tree_row, tree_rows}
use Rattle.segment_file.proofs.Exported.{order_many, row_within}
use Rattle.esc_regs.specs.Kinds.{has_clock}

module _ (s : SegmentValue) (legal : IsLegal s) (r : ℕ) (reference : IsReference s r) where
  pub first_row : row_at s r ≡ reference.row
  first_row =
      ap (λ (p : ℕ). slice_index (order (tree_rows s.rows)) p) reference.position
      ∙ order_at (tree_rows s.rows) legal.tree.tree legal.tree.slaves reference.row
      (reference_within (tree_rows s.rows) legal.tree.tree legal.tree.slaves (clock_at s.rows) reference.row reference.found)

  pub reference_low : r < length s.rows
  reference_low =
      let within = reference_within (tree_rows s.rows) legal.tree.tree legal.tree.slaves (clock_at s.rows) reference.row reference.found in
      let low = position_within (tree_rows s.rows) legal.tree.tree legal.tree.slaves reference.row within in
      let many = length-map s.rows tree_row in
      let at = reference.position in
      omega (arith, low, many, at)

  pub reference_clock : has_clock (kind_at s r) ≡ true
  reference_clock =
      row_has has_clock s legal r reference_low ∙ ap (clock_at s.rows) first_row
      ∙ reference_timed (tree_rows s.rows) legal.tree.tree legal.tree.slaves (clock_at s.rows) reference.row reference.found

  pub behind_reference : (p : ℕ) → p < length s.rows → has_clock (kind_at s p) ≡ true → p ≢ r → r < p
  behind_reference p low clock other =
      elim (cases_lt r p) [
        | inl behind ↦ behind
        | inr before ↦
            let rows = tree_rows s.rows in
            let many = order_many s legal in
            let rows_many = length-map s.rows tree_row in
            let there = reference_low in
            let within = row_within s legal p low in
            let rises = order_pair rows legal.tree.tree legal.tree.slaves p r (let less : p < r = omega (arith, before, other) in less) (omega (arith, many, there)) in
            let first = reference_first rows legal.tree.tree legal.tree.slaves (clock_at s.rows) reference.row reference.found (row_at s p) (omega (arith, within, rows_many))
            (sym (row_has has_clock s legal p low) ∙ clock) in
            let same = ap (arrive rows) first_row in
            absurd (omega (arith, rises, first, same))
      ]
