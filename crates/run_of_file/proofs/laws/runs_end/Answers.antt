use Rattle.run_of_file.proofs.Ending.{commissioned_on, settled_on, armed_on, ran_on, whole_ends, from_ends}
use Rattle.run_of_file.proofs.laws.runs_end.Goals as goal

pub returns : goal.returns
returns c = record {
  commissioned = λ s legal. (commissioned_on s legal).some;
  settled = λ s legal. (settled_on s legal).some;
  armed = λ s legal. (armed_on s legal).some;
  ran = λ s legal. (ran_on s legal).some;
  whole = whole_ends;
  from = from_ends;
}
