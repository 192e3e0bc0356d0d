use Rattle.migrated_runs.proofs.Runs.{same_master, same_start, same_commissioned, same_settled, same_armed, same_ran, same_run}
use Rattle.migrated_runs.proofs.laws.migration_changes_no_run.Goals as goal

pub returns : goal.returns
returns c = record {
  master = same_master;
  start = same_start;
  commissioned = same_commissioned;
  settled = same_settled;
  armed = same_armed;
  ran = same_ran;
  whole = same_run;
}
