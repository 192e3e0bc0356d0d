use Rattle.dc_bounds.proofs.IntervalFacts.{ticks_in_interval}
use Rattle.dc_bounds.proofs.laws.ticks_in_interval.Goals as goal

pub returns : goal.returns
returns c = ticks_in_interval
