use Rattle.copy_law.proofs.Standing.{stands_behind}
use Rattle.copy_law.proofs.laws.states_stand.Goals as goal

pub returns : goal.returns
returns c = λ s k t legal behind. stands_behind s legal k t behind
