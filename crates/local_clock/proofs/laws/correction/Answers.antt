use Rattle.local_clock.proofs.WorkedOff.{worked_off}
use Rattle.local_clock.proofs.laws.correction.Goals as goal

pub returns-clause-size : goal.returns-clause-size
returns-clause-size c = λ d g k some. (worked_off d g k some).0

pub returns-clause-sign : goal.returns-clause-sign
returns-clause-sign c = λ d g k some. (worked_off d g k some).1
