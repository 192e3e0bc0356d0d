use Rattle.wrap_time.proofs.Extending.{times_extended}
use Rattle.wrap_time.proofs.laws.times_extended.Goals as goal

pub returns : goal.returns
returns c = times_extended
