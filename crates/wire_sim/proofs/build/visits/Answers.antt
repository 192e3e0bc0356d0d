use Rattle.wire_sim.proofs.Starting.{visits_short}
use Rattle.wire_sim.proofs.build.visits.Goals as goal

pub new-requires : goal.new-requires
new-requires c =
    visits_short c.args.tree.now c.args.row _ _ _ _ c.requires.valid c.requires.row c.requires.short c.arrive.ensures c.port_time.ensures
    c.port_time-2.ensures c.port_time-3.ensures
