use Rattle.segment_bench.proofs.Rows.{row_low}
use Rattle.segment_bench.proofs.config.plans.Goals as goal

pub plan-requires : goal.plan-requires
plan-requires c =
    row_low c.args.segment.now c.tree.result.now c.order-row-items.result.now c.loop-row.row-index c.tree.ensures.legal c.tree.ensures.is c.order-row-items.ensures.is
    c.loop-row-test.true
