use Rattle.std.proofs.Common.{drop}
use Rattle.osc_clock.proofs.Walks.{IsBefore}
use Rattle.osc_clock.proofs.osc.Osc.ticks_until.Given as goal

abbrev pub invariant-loop-row : goal.invariant-loop-row
invariant-loop-row l = IsBefore l.self (drop l.row-index l.row-items) l.tick l.period l.left l.t
