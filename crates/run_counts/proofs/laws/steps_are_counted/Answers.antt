use Rattle.run_counts.proofs.Positions.{arming_counted, commissioning_counted}
use Rattle.run_counts.proofs.laws.steps_are_counted.Goals as goal

pub returns : goal.returns
returns c = record { commissioning = commissioning_counted; arming = arming_counted }
