use Rattle.honest_slaves.proofs.Answering.{naming_counts, read_there, written_there, refused_there}
use Rattle.honest_slaves.proofs.laws.stations_answer.Goals as goal

pub returns-clause-naming : goal.returns-clause-naming
returns-clause-naming c = naming_counts

pub returns-clause-read : goal.returns-clause-read
returns-clause-read c = read_there

pub returns-clause-written : goal.returns-clause-written
returns-clause-written c = written_there

pub returns-clause-refused : goal.returns-clause-refused
returns-clause-refused c = refused_there
