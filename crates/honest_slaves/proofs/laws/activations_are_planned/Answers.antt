use Rattle.honest_slaves.proofs.Scripts.{planned_step}
use Rattle.honest_slaves.proofs.laws.activations_are_planned.Goals as goal

pub returns : goal.returns
returns c = planned_step
