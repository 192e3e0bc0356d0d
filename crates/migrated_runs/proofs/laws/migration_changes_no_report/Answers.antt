use Rattle.migrated_runs.proofs.Reports.{same_table, same_report, same_drill}
use Rattle.migrated_runs.proofs.Commands.{same_check}
use Rattle.migrated_runs.proofs.laws.migration_changes_no_report.Goals as goal

pub returns : goal.returns
returns c = record { table = same_table; report = same_report; drill = same_drill; check = same_check }
