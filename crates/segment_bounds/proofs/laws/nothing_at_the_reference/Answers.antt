use Rattle.segment_bounds.proofs.BoundLemmas.{some_reference, weightless_at, boundless_at, copyless_at, no_delay_at}
use Rattle.segment_bounds.proofs.laws.nothing_at_the_reference.Goals as goal

pub returns : goal.returns
returns c = record { row = some_reference; weight = weightless_at; delay_bound = boundless_at; copy_bound = copyless_at; delay = no_delay_at }
