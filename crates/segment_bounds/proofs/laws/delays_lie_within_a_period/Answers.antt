use Rattle.segment_bounds.proofs.BoundLemmas.{delay_apart, delay_short}
use Rattle.segment_bounds.proofs.laws.delays_lie_within_a_period.Goals as goal

pub returns : goal.returns
returns c = record { arrivals = delay_apart; short = delay_short }
