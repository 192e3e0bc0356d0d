use Rattle.std.proofs.Common.{subst, sym}
use Rattle.edge_report.specs.Edges.{AreEdges}
use Rattle.segment_cases.proofs.Making.{edges_more}
use Rattle.segment_cases.proofs.reports.edges.push_edge.Goals as goal

pub returns-clause-edges : goal.returns-clause-edges
returns-clause-edges c =
    subst (AreEdges c.args.segment.now) (sym c.in_ok-push.ensures.items)
    (edges_more c.args.segment.now c.args.edges.now.items c.args.edge c.requires.edges c.requires.edge c.requires.last c.requires.next c.requires.low)
