use Rattle.delay_law.proofs.Ended.{holds, told, way_of}
use Rattle.delay_law.proofs.Places.{visits_there}
use Rattle.delay_law.proofs.laws.times_of_the_latch.Goals as goal

pub returns-clause-held : goal.returns-clause-held
returns-clause-held c = λ s run it. holds s it.legal run it.is it.ok

pub returns-clause-told : goal.returns-clause-told
returns-clause-told c = λ s run it. told s it.legal run it.is it.ok

pub returns-clause-visits : goal.returns-clause-visits
returns-clause-visits c = λ s run p v legal is there. visits_there s legal p v ((way_of s legal run is).fixed p v there)
