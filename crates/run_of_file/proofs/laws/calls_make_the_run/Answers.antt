use Rattle.run_of_file.proofs.Calls.{commissioned_by, settled_by, armed_by, ran_by}
use Rattle.run_of_file.proofs.laws.calls_make_the_run.Goals as goal

pub returns : goal.returns
returns c = record { commission = commissioned_by; settle = settled_by; arm = armed_by; run = ran_by }
