use Rattle.run_counts.proofs.Shape.{commissioned_sends, settled_sends, armed_sends, ran_sends}
use Rattle.run_counts.proofs.Premise.{honest_replies}
use Rattle.run_counts.proofs.laws.phases_send_so_many.Goals as goal

pub returns : goal.returns
returns c = record {
  commissioned = λ s run legal is ok. commissioned_sends s legal (honest_replies s legal) run is ok;
  settled = λ s first run legal was is ok. settled_sends s legal (honest_replies s legal) first run was is ok;
  armed = λ s first run legal was is ok. armed_sends s legal (honest_replies s legal) first run was is ok;
  ran = λ s first run legal was is ok. ran_sends s legal (honest_replies s legal) first run was is ok;
}
