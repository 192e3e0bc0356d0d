use Rattle.frame_pass.proofs.DataRead.{held_read, time_read, size_read}
use Rattle.frame_pass.proofs.laws.read_numbers.Goals as goal

pub returns-clause-held : goal.returns-clause-held
returns-clause-held c = held_read

pub returns-clause-system_time : goal.returns-clause-system_time
returns-clause-system_time c = time_read

pub returns-clause-size : goal.returns-clause-size
returns-clause-size c = size_read
