use Rattle.run_of_file.proofs.Refused.{commissioned_ends, settled_ends, armed_ends, ran_ends, whole_ends_so}
use Rattle.run_of_file.proofs.laws.refusals_end_the_run.Goals as goal

pub returns : goal.returns
returns c = record { commissioned = commissioned_ends; settled = settled_ends; armed = armed_ends; ran = ran_ends; whole = whole_ends_so }
