use Rattle.honest_slaves.proofs.Mindful.{mindful_step}
use Rattle.honest_slaves.proofs.laws.frames_are_mindful.Goals as goal

pub returns : goal.returns
returns c = mindful_step
