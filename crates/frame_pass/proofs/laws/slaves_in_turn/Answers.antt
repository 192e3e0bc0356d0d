use Rattle.frame_pass.proofs.Unreached.{unreached, reached, stays, same_count}
use Rattle.frame_pass.proofs.laws.slaves_in_turn.Goals as goal

pub returns-clause-reached : goal.returns-clause-reached
returns-clause-reached c = reached

pub returns-clause-stays : goal.returns-clause-stays
returns-clause-stays c = stays

pub returns-clause-unreached : goal.returns-clause-unreached
returns-clause-unreached c = unreached

pub returns-clause-count : goal.returns-clause-count
returns-clause-count c = same_count
