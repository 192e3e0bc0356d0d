use Rattle.wrap_time.proofs.Cuts.{latched_difference}
use Rattle.wrap_time.proofs.laws.latched_differences.Goals as goal

pub returns : goal.returns
returns c = latched_difference
