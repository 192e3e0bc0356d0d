use Rattle.ecat_link.proofs.Driving.{run_is}
use Rattle.ecat_link.proofs.laws.run_is.Goals as goal

pub returns : goal.returns
returns g c = run_is
