use Rattle.segment_start.proofs.Starts.{as_many, stands_at}
use Rattle.segment_start.proofs.laws.slaves_in_frame_order.Goals as goal

pub returns-clause-count : goal.returns-clause-count
returns-clause-count c = as_many

pub returns-clause-each : goal.returns-clause-each
returns-clause-each c = stands_at
