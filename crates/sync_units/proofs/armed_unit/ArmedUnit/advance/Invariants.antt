use Rattle.local_clock.specs.Reading.{ticks_to}
use Rattle.sync_units.proofs.NextEdges.{GoesOn}
use Rattle.sync_units.proofs.armed_unit.ArmedUnit.advance.Given as goal

abbrev pub invariant-loop-tick : goal.invariant-loop-tick
invariant-loop-tick g l =
    GoesOn g.W.ClockWord.WIDTH (g.W.ClockWord.number l.offset) l.t l.fn.clock l.fn.self l.fn.list l.clock l.self l.list l.ticks l.next

abbrev pub decreases-loop-tick : goal.decreases-loop-tick
decreases-loop-tick g l = ticks_to l.clock l.t
