use Rattle.run_of_file.proofs.Ending.{commissioned_on, settled_on, armed_on, ran_on}
use Rattle.run_of_file.proofs.laws.runs_follow_the_script.Goals as goal

pub returns : goal.returns
returns c = record {
  commissioned = λ s run legal is. let on = (commissioned_on s legal).on run is in (on.scripted, on.timely);
  settled = λ s run legal is. let on = (settled_on s legal).on run is in (on.scripted, on.timely);
  armed = λ s run legal is. let on = (armed_on s legal).on run is in (on.scripted, on.timely);
  ran = λ s run legal is. let on = (ran_on s legal).on run is in (on.scripted, on.timely);
}
