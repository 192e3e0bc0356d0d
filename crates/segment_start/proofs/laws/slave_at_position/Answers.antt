use Rattle.segment_start.proofs.Visits.{row_there, visits_there, registers_there, clock_there}
use Rattle.segment_start.proofs.laws.slave_at_position.Goals as goal

pub returns-clause-row : goal.returns-clause-row
returns-clause-row c = row_there

pub returns-clause-visits : goal.returns-clause-visits
returns-clause-visits c = visits_there

pub returns-clause-registers : goal.returns-clause-registers
returns-clause-registers c = registers_there

pub returns-clause-clock : goal.returns-clause-clock
returns-clause-clock c = clock_there
