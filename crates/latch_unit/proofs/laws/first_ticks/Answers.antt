use Rattle.latch_unit.proofs.FirstTick.{first_tick}
use Rattle.latch_unit.proofs.laws.first_ticks.Goals as goal

pub returns : goal.returns
returns c = first_tick
