use Rattle.segment_start.proofs.Visits.{row_in_turn, position_in_turn}
use Rattle.segment_start.proofs.laws.visits_in_turn.Goals as goal

pub returns-clause-row : goal.returns-clause-row
returns-clause-row c = row_in_turn

pub returns-clause-position : goal.returns-clause-position
returns-clause-position c = position_in_turn
