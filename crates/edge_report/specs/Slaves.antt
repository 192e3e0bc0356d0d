-- The slaves of a segment by position, which is their place in frame order, counted from 0.
use Rattle.std.specs.Prelude.{ℕ, slice_index_or}
use Rattle.cable_tree.specs.Positions.{position_of}
use Rattle.segment_bounds.specs.Bounds.{reference_row_of}
use Rattle.segment_file.specs.Segment.{RowValue, SegmentValue, no_row, row_at, tree_rows}

-- the slave at a position
unfoldable pub slave_at : SegmentValue → ℕ → RowValue
slave_at s p = slice_index_or s.rows (row_at s p) no_row

-- the position of the reference clock
unfoldable pub reference_position : SegmentValue → ℕ
reference_position s = position_of (tree_rows s.rows) (reference_row_of s)
