use Rattle.sync_units.proofs.Rising.{rising_edge}
use Rattle.sync_units.proofs.laws.edges_of_rising_copies.Goals as goal

pub returns : goal.returns
returns c = rising_edge
