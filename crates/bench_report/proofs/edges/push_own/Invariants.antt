use Rattle.std.proofs.Common.{◌≡◌, ◌++◌, take}
use Rattle.bench_report.specs.Edges.{own_edges}
use Rattle.bench_report.proofs.edges.push_own.Given as goal

abbrev pub invariant-loop-edge : goal.invariant-loop-edge
invariant-loop-edge l = l.list.items ≡ l.fn.list.items ++ own_edges l.position (take l.edge-index l.edges)
