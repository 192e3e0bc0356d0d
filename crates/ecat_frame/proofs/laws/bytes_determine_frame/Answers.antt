use Rattle.ecat_frame.proofs.Injective.{spelling-injective}
use Rattle.ecat_frame.proofs.laws.bytes_determine_frame.Goals as goal

pub returns : goal.returns
returns c f g w v e = spelling-injective f g w v e
