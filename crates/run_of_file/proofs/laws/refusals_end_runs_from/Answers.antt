use Rattle.run_of_file.proofs.Refused.{commissioned_from_ends, settled_from_ends, armed_from_ends, ran_from_ends, whole_from_ends_so}
use Rattle.run_of_file.proofs.laws.refusals_end_runs_from.Goals as goal

pub returns : goal.returns
returns c = record { commissioned = commissioned_from_ends; settled = settled_from_ends; armed = armed_from_ends; ran = ran_from_ends; whole = whole_from_ends_so }
