-- The slaves of a file by position.
use Rattle.std.specs.Prelude.{ℕ}
use Rattle.esc_regs.specs.declared.clock_kind.ClockKind.{ClockKind}
use Rattle.segment_file.specs.Segment.{SegmentValue, row_at, row_of, tree_rows}
use Rattle.dc_topology.specs.Status.{status_of}

-- the kind of the slave at a position, and the DL status that it shows in the tree
abbrev pub kind_at : SegmentValue → ℕ → ClockKind
kind_at s q = (row_of s (row_at s q)).kind

abbrev pub status_at : SegmentValue → ℕ → ℕ
status_at s q = status_of (tree_rows s.rows) (row_at s q)
