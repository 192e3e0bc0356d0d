use Rattle.run_of_file.proofs.AtStart.{commissioned_at_start, settled_at_start, armed_at_start, ran_at_start, run_at_start}
use Rattle.run_of_file.proofs.laws.runs_begin_at_the_start.Goals as goal

pub returns : goal.returns
returns c = record { commissioned = commissioned_at_start; settled = settled_at_start; armed = armed_at_start; ran = ran_at_start; whole = run_at_start }
