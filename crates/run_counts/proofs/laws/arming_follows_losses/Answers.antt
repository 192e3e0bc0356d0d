use Rattle.run_counts.proofs.Arming.{after_arms}
use Rattle.run_counts.proofs.laws.arming_follows_losses.Goals as goal

pub returns : goal.returns
returns c = record { next = after_arms }
