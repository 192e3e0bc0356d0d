use Rattle.segment_bounds.proofs.BoundLemmas.{quarter_of_period}
use Rattle.segment_bounds.proofs.laws.quarter_period.Goals as goal

pub returns : goal.returns
returns c = quarter_of_period
