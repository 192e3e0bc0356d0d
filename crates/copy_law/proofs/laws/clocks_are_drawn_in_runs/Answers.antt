use Rattle.copy_law.proofs.Drawing.{drawing}
use Rattle.copy_law.proofs.laws.clocks_are_drawn_in_runs.Goals as goal

pub returns : goal.returns
returns c = λ s k r p t legal behind reference low clock other. drawing s legal r reference p low clock other k t behind
