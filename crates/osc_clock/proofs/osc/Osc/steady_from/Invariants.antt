use Rattle.std.proofs.Common.{drop}
use Rattle.osc_clock.proofs.Steady.{IsLeft}
use Rattle.osc_clock.proofs.osc.Osc.steady_from.Given as goal

abbrev pub invariant-loop-row : goal.invariant-loop-row
invariant-loop-row l = IsLeft l.self (drop l.row-index l.row-items) l.period l.tick
