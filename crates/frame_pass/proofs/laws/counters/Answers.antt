use Rattle.frame_pass.proofs.Counting.{all_gain, one_gains, other_station, own_read, own_written}
use Rattle.frame_pass.proofs.Drifting.{passes_refused}
use Rattle.frame_pass.proofs.laws.counters.Goals as goal

pub returns-clause-sum : goal.returns-clause-sum
returns-clause-sum c = all_gain

pub returns-clause-one : goal.returns-clause-one
returns-clause-one c = one_gains

pub returns-clause-other : goal.returns-clause-other
returns-clause-other c = other_station

pub returns-clause-read : goal.returns-clause-read
returns-clause-read c = own_read

pub returns-clause-written : goal.returns-clause-written
returns-clause-written c = own_written

pub returns-clause-refused : goal.returns-clause-refused
returns-clause-refused c = passes_refused
