use Rattle.local_clock.proofs.ManyTicks.{speed_least, speed_most}
use Rattle.local_clock.proofs.WorkedOff.{corrections_few}
use Rattle.local_clock.proofs.laws.speed.Goals as goal

pub returns-clause-slowest : goal.returns-clause-slowest
returns-clause-slowest c = speed_least

pub returns-clause-fastest : goal.returns-clause-fastest
returns-clause-fastest c = speed_most

pub returns-clause-most : goal.returns-clause-most
returns-clause-most c = λ g k s steady. (corrections_few g k s steady).0

pub returns-clause-least : goal.returns-clause-least
returns-clause-least c = λ g k s steady. (corrections_few g k s steady).1
