use Rattle.local_clock.proofs.ManyTicks.{advanced_here, advanced_twice, advanced_reading, advanced_tick, ticks_to_tick}
use Rattle.local_clock.proofs.laws.advances_in_turn.Goals as goal

pub returns-clause-here : goal.returns-clause-here
returns-clause-here c = advanced_here

pub returns-clause-twice : goal.returns-clause-twice
returns-clause-twice c = advanced_twice

pub returns-clause-reading : goal.returns-clause-reading
returns-clause-reading c = advanced_reading

pub returns-clause-tick : goal.returns-clause-tick
returns-clause-tick c = advanced_tick

pub returns-clause-count : goal.returns-clause-count
returns-clause-count c = ticks_to_tick
