use Rattle.run_counts.proofs.Joined.{commissioned_answers, settled_answers, armed_answers, ran_answers}
use Rattle.run_counts.proofs.Premise.{honest_replies}
use Rattle.run_counts.proofs.Whole.{whole_answers}
use Rattle.run_counts.proofs.laws.losses_tell_the_answer.Goals as goal

pub returns : goal.returns
returns c = record {
  commissioned = λ s run legal is. commissioned_answers s legal (honest_replies s legal) run is;
  settled = λ s run legal is. settled_answers s legal (honest_replies s legal) run is;
  armed = λ s run legal is. armed_answers s legal (honest_replies s legal) run is;
  ran = λ s run legal is. ran_answers s legal (honest_replies s legal) run is;
  whole = whole_answers;
}
