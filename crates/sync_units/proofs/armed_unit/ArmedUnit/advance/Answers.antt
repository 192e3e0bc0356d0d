use Rattle.std.proofs.Common.{◌∙◌}
use Rattle.sync_units.proofs.NextEdges.{later, goes_on, ends}
use Rattle.sync_units.proofs.armed_unit.ArmedUnit.advance.Goals as goal

pub advance-requires : goal.advance-requires
advance-requires g c = (later _ _ _ _ _ _ _ _ _ _ _ _ c.ranges.t.fits c.loop-tick.invariant c.in-Some.ensures).0

pub loop-tick-smaller : goal.loop-tick-smaller
loop-tick-smaller g c =
    rw c.advance.ensures.is ((later _ _ _ _ _ _ _ _ _ _ _ _ c.ranges.t.fits c.loop-tick.invariant c.in-Some.ensures).1)

pub loop-tick-preserved : goal.loop-tick-preserved
loop-tick-preserved g c =
    let e = c.advance.ensures.is in
    rw e
    (goes_on _ _ _ c.in-Some.tick _ _ _ _ _ _ _ _ c.take_tick-next.new.self c.take_tick-next.new.list _
    c.take_tick-next.result c.ranges.t.fits c.loop-tick.invariant c.in-Some.ensures (rw e at c.ticks_to-ticks-in-Some.ensures.number)
    (rw e at c.take_tick-next.ensures.unit) (rw e at c.take_tick-next.ensures.list) (rw e at c.take_tick-next.ensures.next))

pub returns-clause-unit : goal.returns-clause-unit
returns-clause-unit g c = (ends _ _ _ _ _ _ _ _ _ _ _ c.ranges.t.fits c.loop-tick.invariant c.in_default.ensures).0

pub returns-clause-list : goal.returns-clause-list
returns-clause-list g c = (ends _ _ _ _ _ _ _ _ _ _ _ c.ranges.t.fits c.loop-tick.invariant c.in_default.ensures).1

pub returns-clause-clock : goal.returns-clause-clock
returns-clause-clock g c = c.advance_by.ensures.is ∙ c.loop-tick.invariant.clock
