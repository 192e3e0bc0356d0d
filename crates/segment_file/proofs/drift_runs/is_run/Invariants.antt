use Rattle.std.proofs.Common.{◌≡◌, ◌+◌, ◌-◌}
use Rattle.std.specs.List.{list_all, range_with_len}
use Rattle.segment_file.specs.Runs.{is_lost, is_run}
use Rattle.segment_file.proofs.drift_runs.is_run.Given as goal

abbrev pub invariant-loop-ahead : goal.invariant-loop-ahead
invariant-loop-ahead l = is_run l.losses l.count l.number ≡ list_all (is_lost l.losses) (range_with_len (l.number + l.ahead) (l.count - l.ahead))
