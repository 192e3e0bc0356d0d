use Rattle.run_counts.proofs.Lossless.{lossless}
use Rattle.run_counts.proofs.laws.runs_without_losses.Goals as goal

pub returns : goal.returns
returns c = lossless
