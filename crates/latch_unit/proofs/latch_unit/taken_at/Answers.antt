use Rattle.std.proofs.Common.{arith}
use Rattle.osc_clock.proofs.Exported.{among_few}
use Rattle.latch_unit.proofs.latch_unit.taken_at.Goals as goal

pub overflow_add-tick : goal.overflow_add-tick
overflow_add-tick c =
    let few = among_few c.args.osc.now c.saturating_sub.result c.saturating_sub.result in
    omega (arith, few, c.saturating_sub.ensures, c.ticks_until-tick.ensures.number, c.ranges.event.fits)
