use Rattle.local_clock.proofs.ManyTicks.{elapsed_splits, steered_splits}
use Rattle.local_clock.proofs.laws.ticks_in_turn.Goals as goal

pub returns-clause-elapsed : goal.returns-clause-elapsed
returns-clause-elapsed c = elapsed_splits

pub returns-clause-steered : goal.returns-clause-steered
returns-clause-steered c = steered_splits
