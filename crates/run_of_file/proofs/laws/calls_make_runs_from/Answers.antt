use Rattle.run_of_file.proofs.Calls.{commissioned_from_by, settled_from_by, armed_from_by, ran_from_by}
use Rattle.run_of_file.proofs.laws.calls_make_runs_from.Goals as goal

pub returns : goal.returns
returns c = record { commission = commissioned_from_by; settle = settled_from_by; arm = armed_from_by; run = ran_from_by }
