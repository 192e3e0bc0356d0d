use Rattle.ecat_link.proofs.Driving.{driven}
use Rattle.ecat_link.proofs.laws.runs_are_driven.Goals as goal

pub returns : goal.returns
returns g c = driven
