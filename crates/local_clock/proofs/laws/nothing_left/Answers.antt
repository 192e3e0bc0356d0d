use Rattle.local_clock.proofs.Steady.{rests}
use Rattle.local_clock.proofs.laws.nothing_left.Goals as goal

pub returns-clause-steered : goal.returns-clause-steered
returns-clause-steered c = λ g k n. (rests g k n).0

pub returns-clause-elapsed : goal.returns-clause-elapsed
returns-clause-elapsed c = λ g k n. (rests g k n).1
