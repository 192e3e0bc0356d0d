use Rattle.std.proofs.Common.{refl}
use Rattle.segment_start.specs.Start.{slave_of}
use Rattle.wire_sim.proofs.Starting.{row_low, slave_more}
use Rattle.wire_sim.proofs.build.slaves.Goals as goal

pub slave-requires : goal.slave-requires
slave-requires c =
    row_low c.args.segment.now c.tree.result.now c.order-row-items.result.now c.loop-row.row-index c.tree.ensures.legal c.tree.ensures.is c.order-row-items.ensures.is
    c.loop-row-test.true

pub loop-row-preserved : goal.loop-row-preserved
loop-row-preserved c =
    slave_more (slave_of c.args.segment.now) c.loop-row.slaves.items c.push.new.slaves.items c.order-row-items.result.now c.loop-row.row-index _ c.in_ok-slave.slave
    c.loop-row-test.true c.loop-row.invariant refl c.in_ok-slave.ensures c.in_ok-push.ensures
