use Rattle.wrap_time.proofs.Cuts.{less_and_back}
use Rattle.wrap_time.proofs.laws.subtracted_and_back.Goals as goal

pub returns : goal.returns
returns c = less_and_back
