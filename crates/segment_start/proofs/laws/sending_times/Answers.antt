use Rattle.segment_start.proofs.Times.{legal_times}
use Rattle.segment_start.proofs.laws.sending_times.Goals as goal

pub returns : goal.returns
returns c = legal_times
