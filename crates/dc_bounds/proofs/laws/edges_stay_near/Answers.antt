use Rattle.dc_bounds.proofs.Staying.{edges_near}
use Rattle.dc_bounds.proofs.laws.edges_stay_near.Goals as goal

pub returns : goal.returns
returns c = edges_near
