use Rattle.run_counts.proofs.Few.{few_in_all, few_in_arming, few_in_commissioning, few_in_running, few_in_settling}
use Rattle.run_counts.proofs.laws.transmissions_are_few.Goals as goal

pub returns : goal.returns
returns c = record {
  commissioned = λ s run legal is. few_in_commissioning s legal run is;
  settled = λ s run legal is. few_in_settling s legal run is;
  armed = λ s run legal is. few_in_arming s legal run is;
  ran = λ s run legal is. few_in_running s legal run is;
  whole = λ s run legal is. few_in_all s legal run is;
}
