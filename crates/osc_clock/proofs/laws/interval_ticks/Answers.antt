use Rattle.osc_clock.proofs.TickLaws.{gaps_within, spaced, not_too_many, not_too_few}
use Rattle.osc_clock.proofs.laws.interval_ticks.Goals as goal

pub returns : goal.returns
returns c = record { gaps = gaps_within; spaced = spaced; not_too_many = not_too_many; not_too_few = not_too_few }
