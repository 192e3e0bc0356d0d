use Rattle.frame_pass.proofs.Plain.{plain_datagram, plain_time, plain_passed, left_passed}
use Rattle.frame_pass.proofs.laws.plain_registers.Goals as goal

pub returns-clause-datagram : goal.returns-clause-datagram
returns-clause-datagram c = plain_datagram

pub returns-clause-time : goal.returns-clause-time
returns-clause-time c = plain_time

pub returns-clause-frame : goal.returns-clause-frame
returns-clause-frame c = plain_passed

pub returns-clause-left : goal.returns-clause-left
returns-clause-left c = left_passed
