use Rattle.frame_pass.proofs.Effects.{times_left}
use Rattle.frame_pass.proofs.Latching.{quiet_passed}
use Rattle.frame_pass.proofs.Ports.{latched_passed}
use Rattle.frame_pass.proofs.Resting.{readings_later}
use Rattle.frame_pass.proofs.laws.receive_times.Goals as goal

pub returns-clause-latched : goal.returns-clause-latched
returns-clause-latched c = latched_passed

pub returns-clause-later : goal.returns-clause-later
returns-clause-later c = readings_later

pub returns-clause-left : goal.returns-clause-left
returns-clause-left c = quiet_passed

pub returns-clause-time : goal.returns-clause-time
returns-clause-time c = times_left
