use Rattle.dc_bounds.proofs.Growth.{quarter}
use Rattle.dc_bounds.proofs.laws.quarter_period.Goals as goal

pub returns : goal.returns
returns c = quarter
