use Rattle.ecat_frame.proofs.Wiped.{none_is_same, same_is_none}
use Rattle.ecat_frame.proofs.laws.no_difference.Goals as goal

pub returns : goal.returns
returns c f g v w = (none_is_same f g v w, same_is_none f g)
