use Rattle.std.proofs.Common.{arith, refl}
use Rattle.local_clock.proofs.Steady.{steady_kept, steady_at}
use Rattle.local_clock.proofs.laws.steady.Goals as goal

pub returns-clause-ticks : goal.returns-clause-ticks
returns-clause-ticks c = steady_kept

pub returns-clause-new : goal.returns-clause-new
returns-clause-new c = λ osc start g some. record { below = omega (arith, some); rests = λ _. refl }

pub returns-clause-history : goal.returns-clause-history
returns-clause-history c = steady_at
