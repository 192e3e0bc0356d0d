use Rattle.honest_slaves.proofs.Runs.{commissioned_honest, settled_honest, armed_honest, ran_honest}
use Rattle.honest_slaves.proofs.laws.errors_are_losses.Goals as goal

pub returns-clause-commissioned : goal.returns-clause-commissioned
returns-clause-commissioned c = λ s run e legal is. (commissioned_honest s legal run is).loss e

pub returns-clause-settled : goal.returns-clause-settled
returns-clause-settled c = λ s run e legal is. (settled_honest s legal run is).loss e

pub returns-clause-armed : goal.returns-clause-armed
returns-clause-armed c = λ s run e legal is. (armed_honest s legal run is).loss e

pub returns-clause-ran : goal.returns-clause-ran
returns-clause-ran c = λ s run e legal is. (ran_honest s legal run is).loss e
