use Rattle.wrap_time.proofs.Cuts.{offset_sum}
use Rattle.wrap_time.proofs.laws.offsets.Goals as goal

pub returns : goal.returns
returns c = offset_sum
