use Rattle.migrated_runs.proofs.Commands.{file_short, file_accepted, file_again}
use Rattle.migrated_runs.proofs.laws.migration_ends.Goals as goal

pub returns : goal.returns
returns c = record { short = file_short; accepted = file_accepted; same = file_again }
