use Rattle.master_script.proofs.Counts.{kept_counts}
use Rattle.master_script.proofs.laws.counts_are_of_the_exchanges.Goals as goal

pub returns : goal.returns
returns c = record { sent = λ cfg frames es. (kept_counts cfg frames es).0; lost = λ cfg frames es. (kept_counts cfg frames es).1 }
