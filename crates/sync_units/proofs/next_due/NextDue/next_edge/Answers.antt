use Rattle.sync_units.proofs.NextEdges.{found, spared}
use Rattle.sync_units.proofs.next_due.NextDue.next_edge.Goals as goal

pub returns-then-ticks-spare : goal.returns-then-ticks-spare
returns-then-ticks-spare g c =
    record { at = spared _ _ _ c.args.clock.now c.args.self.now (rw c.spare.ensures at c.if-ticks-spare.true) }

pub returns-else-ticks-spare : goal.returns-else-ticks-spare
returns-else-ticks-spare g c =
    let (k, next, is) = c.first_reached.ensures.at in
    record { at = found _ _ _ k c.args.clock.now c.args.self.now _ c.first_reached.ensures.running next is }
