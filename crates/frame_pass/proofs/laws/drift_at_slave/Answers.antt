use Rattle.frame_pass.proofs.Drifting.{receives, tells, passes_refused, left_unwritten, quiet_unwritten, kept_unread, addressed, unaddressed}
use Rattle.std.proofs.Common.{ap}
use Rattle.frame_pass.specs.DatagramTable.{writes, reads}
use Rattle.frame_pass.proofs.laws.drift_at_slave.Goals as goal

pub returns-clause-receives : goal.returns-clause-receives
returns-clause-receives c = receives

pub returns-clause-unaddressed : goal.returns-clause-unaddressed
returns-clause-unaddressed c = λ s d drift other. kept_unread s d (unaddressed s d drift other)

pub returns-clause-tells : goal.returns-clause-tells
returns-clause-tells c = tells

pub returns-clause-addressed : goal.returns-clause-addressed
returns-clause-addressed c = λ s d drift own. (left_unwritten s d (addressed s d drift own), quiet_unwritten s d (addressed s d drift own))

pub returns-clause-refused : goal.returns-clause-refused
returns-clause-refused c = λ s d e.
    let p = passes_refused s d e in
    (left_unwritten s d (ap writes p), quiet_unwritten s d (ap writes p), kept_unread s d (ap reads p))
