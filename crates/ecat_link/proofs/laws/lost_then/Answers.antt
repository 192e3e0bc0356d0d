use Rattle.ecat_link.proofs.Losses.{lost_then}
use Rattle.ecat_link.proofs.laws.lost_then.Goals as goal

pub returns : goal.returns
returns c = lost_then
