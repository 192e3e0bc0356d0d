use Rattle.dc_delay.proofs.ByPosition.{near_at}
use Rattle.dc_delay.proofs.by_position.delays_of_a_tree_are_near.Goals as goal

pub returns : goal.returns
returns c = λ rows tree slaves measures there alike timed clocks same. near_at rows tree slaves measures there alike timed clocks same
