use denote.Ref.{Bor}
use Rattle.std.proofs.Common.{◌≡◌, ◌<◌, length, rules}
use Rattle.std.specs.List.{All}
use Rattle.std.proofs.lemmas.Fn.{always_returns_same}
use Rattle.std.proofs.lemmas.List.Elements.{All-weaker}
use Rattle.std.proofs.lemmas.List.Sorted.{All-permutation}
use Rattle.edge_report.specs.EdgeRows.{edges_in_order}
use Rattle.edge_report.specs.Edges.{IsEdge}
use Rattle.edge_report.specs.declared.slave_edge.SlaveEdge.{SlaveEdge}
use Rattle.edge_report.proofs.Ordering.{index, indices_low, order_key, position, sorted_in_order}
use Rattle.edge_report.proofs.edge_rows.in_order.Goals as goal

pub returns-clause-is : goal.returns-clause-is
unfolding edges_in_order
returns-clause-is c =
    let s = c.args.segment.now in
    let edges = c.args.edges.items in
    let rows = c.sort_by_key.new.self.items in
    let sorted = c.in_ok-sort_by_key.ensures.sorted order_key (always_returns_same _ (λ (a : Bor SlaveEdge × Unit {0}) r. r ≡ order_key a.0.now) _ (λ a r f h. search rules)) in
    let stable = c.in_ok-sort_by_key.ensures.stable order_key (always_returns_same _ (λ (a : Bor SlaveEdge × Unit {0}) r. r ≡ order_key a.0.now) _ (λ a r f h. search rules)) in
    let moved : (P : SlaveEdge → Type 0) → All P edges → All P rows = λ P all. All-permutation P edges rows c.in_ok-sort_by_key.ensures.permutation all in
    sorted_in_order edges rows s.head.cycles (length s.rows) sorted stable
    (All-weaker (IsEdge s) (λ x. position x < length s.rows) (λ x is. is.position) rows (moved (IsEdge s) c.requires.each)) (moved (λ x. index x < s.head.cycles) (indices_low s edges c.requires))

pub returns-clause-each : goal.returns-clause-each
returns-clause-each c =
    All-permutation (IsEdge c.args.segment.now) c.args.edges.items c.sort_by_key.new.self.items c.in_ok-sort_by_key.ensures.permutation c.requires.each
