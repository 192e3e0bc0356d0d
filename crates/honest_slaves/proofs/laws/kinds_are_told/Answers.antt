use Rattle.honest_slaves.proofs.Positions.{told_measuring, told_clocks}
use Rattle.honest_slaves.proofs.laws.kinds_are_told.Goals as goal

pub returns-clause-measuring : goal.returns-clause-measuring
returns-clause-measuring c = told_measuring

pub returns-clause-clocks : goal.returns-clause-clocks
returns-clause-clocks c = told_clocks
