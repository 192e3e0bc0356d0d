use Rattle.delay_law.proofs.Near.{commissioned_near}
use Rattle.delay_law.proofs.Staying.{later_near, whole_near}
use Rattle.delay_law.proofs.laws.delays_are_near.Goals as goal

pub returns-clause-commissioned : goal.returns-clause-commissioned
returns-clause-commissioned c = λ s run legal is ok. commissioned_near s legal run is ok

pub returns-clause-later : goal.returns-clause-later
returns-clause-later c = later_near

pub returns-clause-whole : goal.returns-clause-whole
returns-clause-whole c = whole_near
