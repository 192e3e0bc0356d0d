use Rattle.std.proofs.Common.{◌≡◌, [], map, take, drop}
use Rattle.segment_shape.specs.Twice.{first_again}
use Rattle.segment_shape.proofs.shape.first_again.Given as goal

abbrev pub invariant-loop-i : goal.invariant-loop-i
invariant-loop-i l =
    first_again (map (λ r. r.id.bytes) (take l.i l.rows)) (map (λ r. r.id.bytes) (drop l.i l.rows)) ≡ first_again [] (map (λ r. r.id.bytes) l.rows)
