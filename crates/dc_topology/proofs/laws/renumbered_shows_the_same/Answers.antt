use Rattle.dc_topology.proofs.Bits.{status_here}
use Rattle.dc_topology.proofs.laws.renumbered_shows_the_same.Goals as goal

pub returns : goal.returns
returns c = status_here
