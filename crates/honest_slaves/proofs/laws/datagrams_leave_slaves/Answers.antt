use Rattle.honest_slaves.proofs.Parts.{slave_stays}
use Rattle.honest_slaves.proofs.Addresses.{stands_after, mindful_after}
use Rattle.honest_slaves.proofs.laws.datagrams_leave_slaves.Goals as goal

pub returns-clause-slave : goal.returns-clause-slave
returns-clause-slave c = slave_stays

pub returns-clause-stands : goal.returns-clause-stands
returns-clause-stands c = stands_after

pub returns-clause-mindful : goal.returns-clause-mindful
returns-clause-mindful c = mindful_after
