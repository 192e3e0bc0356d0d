use Rattle.master_script.proofs.Judging.{topology_judged, no_clock_judged, unmeasurable_judged, reference_judged}
use Rattle.master_script.proofs.Within.{judged_below}
use Rattle.master_script.proofs.laws.slaves_are_judged.Goals as goal

pub returns : goal.returns
returns c = record { topology = topology_judged; no_reference = no_clock_judged; unmeasurable = unmeasurable_judged; reference = reference_judged; within = judged_below }
