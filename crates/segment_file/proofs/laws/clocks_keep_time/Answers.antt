use Rattle.segment_file.proofs.ClockLaws.{legal_clocks}
use Rattle.segment_file.proofs.laws.clocks_keep_time.Goals as goal

pub returns : goal.returns
returns c = legal_clocks
