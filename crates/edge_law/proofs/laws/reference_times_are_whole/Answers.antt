use Rattle.edge_law.proofs.ToldStart.{knows_time, start_told}
use Rattle.edge_law.proofs.laws.reference_times_are_whole.Goals as goal

pub returns : goal.returns
returns c = record {
  time = λ s first run r it is ok reference. knows_time s first it r reference run is ok;
  start = λ s first run r it is ok reference knows. start_told s first it r reference run is ok knows;
}
