-- The rows of a legal segment in frame order.
use Rattle.std.proofs.Common.{◌≡◌, ◌∙◌, ℕ, ◌<◌, List, length, get_or, ap, arith}
use Rattle.cable_tree.specs.FrameOrder.{order}
use Rattle.cable_tree.specs.Row.{Row}
use Rattle.segment_file.specs.Segment.{SegmentValue, tree_rows}
use Rattle.segment_file.specs.Legal.{IsLegal}
use Rattle.segment_file.proofs.Exported.{order_many, row_within}

-- a row in a list of the frame order is one of the segment
pub row_low : (s : SegmentValue) (rows : List Row) (list : List ℕ) (i : ℕ) → IsLegal s → rows ≡ tree_rows s.rows → list ≡ order rows → i < length list
    → get_or list i 0 < length s.rows
row_low s rows list i legal t e low =
    let same : list ≡ order (tree_rows s.rows) = e ∙ ap order t in
    let many = order_many s legal in
    let within : i < length (order (tree_rows s.rows)) = rw same at low in
    rw same (row_within s legal i (omega (arith, within, many)))
