use Rattle.dc_delay.proofs.ByPosition.{near_by_latches}
use Rattle.dc_delay.proofs.by_position.delays_by_latches_are_near.Goals as goal

pub returns : goal.returns
returns c = λ rows tree slaves measures there alike timed clocks same. near_by_latches rows tree slaves measures there alike timed clocks same
