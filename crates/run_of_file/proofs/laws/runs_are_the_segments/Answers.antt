use Rattle.run_of_file.proofs.FromStart.{commissioned_exchanges, settled_exchanges, armed_exchanges, ran_exchanges, ran_few}
use Rattle.run_of_file.proofs.laws.runs_are_the_segments.Goals as goal

pub returns : goal.returns
returns c = record { commissioned = commissioned_exchanges; settled = settled_exchanges; armed = armed_exchanges; ran = ran_exchanges; few = λ s run legal. ran_few s legal run }
