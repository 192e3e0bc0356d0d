use Rattle.run_counts.proofs.Counting.{commission_counted, phases_counted, whole_counted}
use Rattle.run_counts.proofs.laws.transmissions_are_told.Goals as goal

pub returns : goal.returns
returns c = record {
  delays = λ s run legal is ok. commission_counted s legal run is ok;
  ran = λ s run legal is ok. phases_counted s legal run is ok;
  whole = λ s run legal is ok. whole_counted s legal run is ok;
}
