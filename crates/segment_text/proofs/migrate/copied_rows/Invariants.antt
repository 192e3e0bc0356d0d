use Rattle.std.proofs.Common.{◌≡◌, map, take}
use Rattle.segment_file.specs.Seen.{row_seen}
use Rattle.segment_text.proofs.migrate.copied_rows.Given as goal

abbrev pub invariant-loop-row : goal.invariant-loop-row
invariant-loop-row l = map row_seen l.copy.items ≡ map row_seen (take l.row-index l.rows)
