use Rattle.delay_law.proofs.Frames.{rests_step}
use Rattle.delay_law.proofs.Places.{rests_first}
use Rattle.delay_law.proofs.laws.clocks_stay_at_rest.Goals as goal

pub returns-clause-start : goal.returns-clause-start
returns-clause-start c = rests_first

pub returns-clause-step : goal.returns-clause-step
returns-clause-step c = λ s t wait_ns f legal stands far rests. rests_step s legal t stands.many stands.sound stands.fixed wait_ns f far rests
