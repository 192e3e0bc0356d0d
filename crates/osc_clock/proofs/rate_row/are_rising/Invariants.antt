use Rattle.std.proofs.Common.{◌↔◌, drop}
use Rattle.osc_clock.specs.Ticks.{AreRising}
use Rattle.osc_clock.proofs.rate_row.are_rising.Given as goal

abbrev pub invariant-loop-row : goal.invariant-loop-row
invariant-loop-row l = AreRising 0 l.rates ↔ AreRising l.tick (drop l.row-index l.rates)
