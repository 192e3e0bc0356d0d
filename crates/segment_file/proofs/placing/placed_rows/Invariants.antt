use Rattle.std.proofs.Common.{◌≡◌, map}
use Rattle.segment_shape.specs.Seen.{row_seen as slave_seen}
use Rattle.segment_file.specs.Placed.{placed_row}
use Rattle.segment_file.specs.Seen.{row_seen}
use Rattle.segment_file.proofs.placing.placed_rows.Given as goal

abbrev pub invariant-loop-row : goal.invariant-loop-row
invariant-loop-row l =
    map row_seen l.placed.items ≡ map (placed_row (map (λ id. id.bytes) l.ids.items)) (map slave_seen l.yielded)
