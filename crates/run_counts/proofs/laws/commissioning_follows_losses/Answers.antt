use Rattle.run_counts.proofs.Commissioning.{after_stands, beginning_stands}
use Rattle.run_counts.proofs.laws.commissioning_follows_losses.Goals as goal

pub returns : goal.returns
returns c = record { begins = beginning_stands; next = after_stands }
