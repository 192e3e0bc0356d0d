use Rattle.dc_delay.proofs.Order.{are_measurable}
use Rattle.dc_delay.proofs.laws.slaves_are_measurable.Goals as goal

pub returns : goal.returns
returns c = λ rows tree slaves measures none. are_measurable rows tree measures slaves none
