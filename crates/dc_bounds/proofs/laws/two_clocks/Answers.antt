use Rattle.dc_bounds.proofs.Growth.{two_clocks}
use Rattle.dc_bounds.proofs.laws.two_clocks.Goals as goal

pub returns : goal.returns
returns c = two_clocks
