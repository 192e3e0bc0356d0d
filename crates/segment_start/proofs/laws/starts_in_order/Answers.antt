use Rattle.segment_start.proofs.Starts.{starts_timely}
use Rattle.segment_start.proofs.Times.{starts_unsent}
use Rattle.segment_start.proofs.laws.starts_in_order.Goals as goal

pub returns-clause-timely : goal.returns-clause-timely
returns-clause-timely c = starts_timely

pub returns-clause-unsent : goal.returns-clause-unsent
returns-clause-unsent c = starts_unsent
