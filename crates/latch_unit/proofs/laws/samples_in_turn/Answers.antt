use Rattle.latch_unit.proofs.InTurn.{stamps_in_turn}
use Rattle.latch_unit.proofs.laws.samples_in_turn.Goals as goal

pub returns-clause-stamp : goal.returns-clause-stamp
returns-clause-stamp c = stamps_in_turn
