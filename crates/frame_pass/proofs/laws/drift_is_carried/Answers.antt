use Rattle.frame_pass.proofs.Drifting.{first_is, carried}
use Rattle.frame_pass.proofs.laws.drift_is_carried.Goals as goal

pub returns-clause-first : goal.returns-clause-first
returns-clause-first c = first_is

pub returns-clause-time : goal.returns-clause-time
returns-clause-time c = carried
