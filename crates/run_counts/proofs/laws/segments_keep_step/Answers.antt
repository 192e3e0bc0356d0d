use Rattle.run_counts.proofs.Numbers.{stands_after}
use Rattle.run_counts.proofs.laws.segments_keep_step.Goals as goal

pub returns : goal.returns
returns c = λ s es t legal made runs. stands_after s legal es t made runs
