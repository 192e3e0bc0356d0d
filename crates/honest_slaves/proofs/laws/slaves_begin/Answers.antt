use Rattle.honest_slaves.proofs.Beginning.{begins}
use Rattle.honest_slaves.proofs.Judged.{judged_ok}
use Rattle.honest_slaves.proofs.laws.slaves_begin.Goals as goal

pub returns-clause-order : goal.returns-clause-order
returns-clause-order c = begins

pub returns-clause-judged : goal.returns-clause-judged
returns-clause-judged c = λ s legal. (_, judged_ok s legal)
