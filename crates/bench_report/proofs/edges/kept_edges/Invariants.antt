use Rattle.std.proofs.Common.{◌≡◌}
use Rattle.std.specs.List.{flat_map, range_with_len}
use Rattle.bench_report.specs.Edges.{kept_at, own_edges}
use Rattle.bench_report.proofs.edges.kept_edges.Given as goal

abbrev pub invariant-loop-position : goal.invariant-loop-position
invariant-loop-position l = l.edges.items ≡ flat_map (λ p. own_edges p (kept_at l.bench.wire p)) (range_with_len 0 l.position)
