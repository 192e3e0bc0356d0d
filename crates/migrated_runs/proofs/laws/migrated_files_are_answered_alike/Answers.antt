use Rattle.migrated_runs.proofs.Commands.{run_alike, delays_alike, check_alike}
use Rattle.migrated_runs.proofs.laws.migrated_files_are_answered_alike.Goals as goal

pub returns : goal.returns
returns c = record { run = run_alike; delays = delays_alike; check = check_alike }
