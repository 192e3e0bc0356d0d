use Rattle.std.proofs.Common.{◌∙◌, arith}
use Rattle.edge_report.proofs.Exported.{seen_at}
use Rattle.segment_cases.proofs.reports.edges.slave.Goals as goal

pub returns : goal.returns
returns c =
    seen_at c.args.segment.now c.rows.result.now c.args.position c.from.result c.index-rows-from.result c.rows.ensures.is (c.from.ensures ∙ c.row_at.ensures.is) (omega (arith, c.from.ensures, c.row_at.ensures.row))
    c.index-rows-from.is
