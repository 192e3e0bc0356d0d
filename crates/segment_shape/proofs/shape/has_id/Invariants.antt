use Rattle.std.proofs.Common.{◌≡◌, map, drop}
use Rattle.std.specs.List.{list_any}
use Rattle.std.specs.Str.{bytes_eq}
use Rattle.segment_shape.proofs.shape.has_id.Given as goal

abbrev pub invariant-loop-row : goal.invariant-loop-row
invariant-loop-row l =
    list_any (bytes_eq l.id.bytes) (map (λ r. r.id.bytes) (drop l.row-index l.rows)) ≡ list_any (bytes_eq l.id.bytes) (map (λ r. r.id.bytes) l.rows)
