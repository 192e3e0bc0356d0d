use Rattle.segment_file.proofs.LossLaws.{one_comes, comes_outside}
use Rattle.segment_file.proofs.laws.frames_come.Goals as goal

pub returns : goal.returns
returns c = record { run = one_comes; outside = comes_outside }
