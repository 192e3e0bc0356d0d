use Rattle.edge_law.proofs.ArmedRuns.{ran_armed, whole_armed}
use Rattle.edge_law.proofs.laws.units_are_armed.Goals as goal

pub returns : goal.returns
returns c = record {
  ran = λ s first before run p v it was is ok there clock. ran_armed s first before it was p clock run v is ok there;
  whole = λ s first before run p v it was is ok there clock. whole_armed s first before it was p clock run v is ok there;
}
