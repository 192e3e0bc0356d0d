use Rattle.wire_sim.proofs.Starting.{way_short, first_times}
use Rattle.wire_sim.proofs.wire.Wire.build.Goals as goal

pub invariant_of-result : goal.invariant_of-result
invariant_of-result c =
    first_times c.round_trip.result (rw (c.round_trip.ensures, c.tree.ensures.is) (way_short c.args.segment.now c.tree.ensures.legal))
