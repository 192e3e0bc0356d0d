use Rattle.std.proofs.Common.{ap}
use Rattle.edge_report.specs.declared.slave_edge.SlaveEdge.{SlaveEdge}
use Rattle.segment_cases.proofs.Making.{index_both}
use Rattle.segment_cases.proofs.reports.edges.push_index.Goals as goal

pub returns : goal.returns
returns c =
    index_both c.args.segment.now c.args.position c.args.index c.args.edges.now.items c.push_edge.new.edges.items c.push_edge-2.new.edges.items c.edge_at.result c.edge_at-2.result
    c.requires.run c.in_ok-push_edge-2.ensures.edges c.in_ok-push_edge.ensures.is c.in_ok-push_edge-2.ensures.is (ap (λ (x : SlaveEdge). x.position) c.edge_at.ensures)
    (ap (λ (x : SlaveEdge). x.position) c.edge_at-2.ensures) (ap (λ (x : SlaveEdge). x.edge.signal) c.edge_at.ensures) (ap (λ (x : SlaveEdge). x.edge.signal) c.edge_at-2.ensures)
