use Rattle.dc_delay.proofs.ByPosition.{accepted, reference_at, unmeasurable_at}
use Rattle.dc_delay.proofs.by_position.judged_by_position.Goals as goal

pub returns : goal.returns
returns c = record { reference = reference_at; unmeasurable = unmeasurable_at; accepted = accepted }
