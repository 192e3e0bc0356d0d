use Rattle.dc_topology.proofs.Hanging.{listed}
use Rattle.dc_topology.proofs.laws.statuses_list_the_tree.Goals as goal

pub returns : goal.returns
returns c = listed
