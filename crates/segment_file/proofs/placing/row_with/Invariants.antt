use Rattle.std.proofs.Common.{◌≡◌, ◌+◌, map, drop}
use Rattle.segment_file.specs.Placed.{row_with}
use Rattle.segment_file.proofs.placing.row_with.Given as goal

abbrev pub invariant-loop-row : goal.invariant-loop-row
invariant-loop-row l =
    l.row + row_with (map (λ id. id.bytes) (drop l.row l.ids)) l.id.bytes ≡ row_with (map (λ id. id.bytes) l.ids) l.id.bytes
