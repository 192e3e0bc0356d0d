use Rattle.honest_slaves.proofs.Frames.{step_standing, step_naming}
use Rattle.honest_slaves.proofs.laws.frames_leave_slaves.Goals as goal

pub returns-clause-standing : goal.returns-clause-standing
returns-clause-standing c = step_standing

pub returns-clause-naming : goal.returns-clause-naming
returns-clause-naming c = step_naming
