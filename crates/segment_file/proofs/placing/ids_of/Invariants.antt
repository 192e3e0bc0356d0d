use Rattle.std.proofs.Common.{◌≡◌, map, take, length}
use Rattle.segment_shape.specs.Seen.{row_seen}
use Rattle.segment_file.proofs.placing.ids_of.Given as goal

abbrev pub invariant-loop-row : goal.invariant-loop-row
invariant-loop-row l = record {
  each : length l.ids.items ≡ l.row-index;
  ids : map (λ id. id.bytes) l.ids.items ≡ map (λ s. s.id) (map row_seen (take l.row-index l.rows));
}
