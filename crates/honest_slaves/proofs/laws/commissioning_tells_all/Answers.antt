use Rattle.honest_slaves.proofs.Delays.{commissioned_late, delays_there, delays_past, delays_whole, judged_told}
use Rattle.honest_slaves.proofs.laws.commissioning_tells_all.Goals as goal

pub returns-clause-named : goal.returns-clause-named
returns-clause-named c = λ s run legal is ok. (commissioned_late s legal run is ok).late.are

pub returns-clause-told : goal.returns-clause-told
returns-clause-told c = judged_told

pub returns-clause-reference : goal.returns-clause-reference
returns-clause-reference c = λ s run legal is ok. (_, (commissioned_late s legal run is ok).late.knows.reference)

pub returns-clause-whole : goal.returns-clause-whole
returns-clause-whole c = λ s run legal is ok. delays_whole s legal run is ok

pub returns-clause-delays : goal.returns-clause-delays
returns-clause-delays c = λ s run p legal is ok low. delays_there s legal run is ok p low

pub returns-clause-past : goal.returns-clause-past
returns-clause-past c = λ s run p legal is ok high. delays_past s legal run is ok p high
