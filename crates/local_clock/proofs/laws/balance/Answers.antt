use Rattle.local_clock.proofs.ManyTicks.{step_balances, ticks_balance}
use Rattle.local_clock.proofs.laws.balance.Goals as goal

pub returns-clause-tick : goal.returns-clause-tick
returns-clause-tick c = step_balances

pub returns-clause-ticks : goal.returns-clause-ticks
returns-clause-ticks c = ticks_balance
