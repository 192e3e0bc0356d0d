use Rattle.osc_clock.proofs.TickLaws.{steady}
use Rattle.osc_clock.proofs.laws.steady_period.Goals as goal

pub returns : goal.returns
returns c = steady
