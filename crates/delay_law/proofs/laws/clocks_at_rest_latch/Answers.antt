use Rattle.delay_law.proofs.Rest.{of_clock}
use Rattle.delay_law.proofs.laws.clocks_at_rest_latch.Goals as goal

pub returns : goal.returns
returns c = of_clock
