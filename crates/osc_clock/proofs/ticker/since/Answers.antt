use Rattle.std.proofs.Common.{arith}
use Rattle.osc_clock.proofs.ticker.since.Goals as goal

pub overflow_cast-result : goal.overflow_cast-result
overflow_cast-result c = omega (arith, c.instant_of.ensures, c.requires.before, c.ranges.t)

pub overflow_sub-result : goal.overflow_sub-result
overflow_sub-result c = omega (arith, c.instant_of.ensures, c.requires.before)

pub returns : goal.returns
returns c = omega (arith, c.instant_of.ensures, c.requires.before)
