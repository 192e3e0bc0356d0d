use Rattle.std.proofs.Common.{◌∙◌, ◌<◌, arith, length, subst}
use Rattle.edge_report.proofs.Places.{seen_at, small_shifts}
use Rattle.edge_report.proofs.slaves.slave.Goals as goal

pub returns-clause-is : goal.returns-clause-is
returns-clause-is c =
    seen_at c.args.segment.now c.rows.result.now c.args.position c.from.result c.index-rows-from.result c.rows.ensures.is (c.from.ensures ∙ c.row_at.ensures.is) (omega (arith, c.from.ensures, c.row_at.ensures.row))
    c.index-rows-from.is

pub returns-clause-small : goal.returns-clause-small
returns-clause-small c =
    small_shifts c.args.segment.now c.args.position c.rows.ensures.legal (subst (λ r. r < length c.args.segment.now.rows) c.row_at.ensures.is c.row_at.ensures.row)
