use Rattle.honest_slaves.proofs.Replies.{count_counts, later_counts}
use Rattle.honest_slaves.proofs.laws.counters_are_expected.Goals as goal

pub returns-clause-count : goal.returns-clause-count
returns-clause-count c = count_counts

pub returns-clause-later : goal.returns-clause-later
returns-clause-later c = later_counts
