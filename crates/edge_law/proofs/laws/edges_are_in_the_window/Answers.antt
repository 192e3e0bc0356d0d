use Rattle.edge_law.proofs.InWindow.{within_window}
use Rattle.edge_law.proofs.laws.edges_are_in_the_window.Goals as goal

pub returns : goal.returns
returns c = λ s run legal is ok. within_window s legal run is ok
