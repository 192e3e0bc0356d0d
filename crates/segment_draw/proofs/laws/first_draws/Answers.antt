use Rattle.std.proofs.Common.{refl}
use Rattle.segment_draw.specs.Draws.{next, after}
use Rattle.segment_draw.proofs.laws.first_draws.Goals as goal

pub returns : goal.returns
unfolding next after
returns c = refl
