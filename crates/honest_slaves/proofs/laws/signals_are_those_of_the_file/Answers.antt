use Rattle.honest_slaves.proofs.SignalRuns.{signals_begin, commissioned_keeps, settled_keeps, armed_keeps, ran_keeps, whole_keeps}
use Rattle.honest_slaves.proofs.laws.signals_are_those_of_the_file.Goals as goal

pub returns : goal.returns
returns c = record {
  start = signals_begin;
  commissioned = λ s run legal. commissioned_keeps s legal run;
  settled = λ s run legal. settled_keeps s legal run;
  armed = λ s run legal. armed_keeps s legal run;
  ran = λ s run legal. ran_keeps s legal run;
  whole = λ s run legal. whole_keeps s legal run;
}
