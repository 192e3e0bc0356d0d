use Rattle.local_clock.proofs.Behind.{behind_near}
use Rattle.local_clock.proofs.laws.behind_of_near_numbers.Goals as goal

pub returns : goal.returns
returns c = behind_near
