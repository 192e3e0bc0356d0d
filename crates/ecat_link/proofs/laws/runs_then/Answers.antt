use Rattle.ecat_link.proofs.Serving.{runs_then}
use Rattle.ecat_link.proofs.laws.runs_then.Goals as goal

pub returns : goal.returns
returns g c = runs_then
