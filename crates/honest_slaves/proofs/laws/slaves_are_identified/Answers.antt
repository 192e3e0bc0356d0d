use Rattle.honest_slaves.proofs.Identifying.{identify_tells, identify_counts}
use Rattle.honest_slaves.proofs.laws.slaves_are_identified.Goals as goal

pub returns-clause-tells : goal.returns-clause-tells
returns-clause-tells c = identify_tells

pub returns-clause-counts : goal.returns-clause-counts
returns-clause-counts c = identify_counts
