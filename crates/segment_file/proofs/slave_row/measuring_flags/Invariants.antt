use Rattle.std.proofs.Common.{◌≡◌, map, take, length}
use Rattle.segment_file.specs.Segment.{is_measuring}
use Rattle.segment_file.specs.Seen.{row_seen}
use Rattle.segment_file.proofs.slave_row.measuring_flags.Given as goal

abbrev pub invariant-loop-row : goal.invariant-loop-row
invariant-loop-row l = record {
  each : length l.flags.items ≡ l.row-index;
  flags : l.flags.items ≡ map is_measuring (map row_seen (take l.row-index l.rows));
}
