use Rattle.std.proofs.Common.{drop}
use Rattle.osc_clock.proofs.Walks.{IsOnTheWay}
use Rattle.osc_clock.proofs.osc.Osc.instant_of.Given as goal

abbrev pub invariant-loop-row : goal.invariant-loop-row
invariant-loop-row l = IsOnTheWay l.self (drop l.row-index l.row-items) l.reached l.period l.at l.tick
