use Rattle.honest_slaves.proofs.Frames.{found_standing, found_named}
use Rattle.honest_slaves.proofs.laws.datagrams_find_slaves.Goals as goal

pub returns-clause-standing : goal.returns-clause-standing
returns-clause-standing c = found_standing

pub returns-clause-named : goal.returns-clause-named
returns-clause-named c = found_named
