use Rattle.run_counts.proofs.Settling.{after_settles}
use Rattle.run_counts.proofs.laws.settling_follows_losses.Goals as goal

pub returns : goal.returns
returns c = record { next = after_settles }
