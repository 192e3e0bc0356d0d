use Rattle.std.proofs.Common.{◌≡◌, ◌+◌, ◌-◌}
use Rattle.std.specs.List.{find, range_with_len}
use Rattle.segment_file.specs.Runs.{first_run, is_run, greatest_number}
use Rattle.segment_file.proofs.drift_runs.first_run.Given as goal

abbrev pub invariant-loop-number : goal.invariant-loop-number
invariant-loop-number l = first_run l.losses l.count ≡ find (is_run l.losses l.count) (range_with_len l.number ((greatest_number + 1) - l.number))
