use Rattle.std.proofs.Common.{◌≡◌, map, take}
use Rattle.segment_file.specs.Segment.{tree_rows}
use Rattle.segment_file.specs.Seen.{row_seen}
use Rattle.segment_file.proofs.placing.tree_rows.Given as goal

abbrev pub invariant-loop-row : goal.invariant-loop-row
invariant-loop-row l = l.tree_rows.items ≡ tree_rows (map row_seen (take l.row-index l.rows))
