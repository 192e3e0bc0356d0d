use Rattle.dc_delay.proofs.AddedUp.{added_up, weighed}
use Rattle.dc_delay.proofs.laws.hops_add_up.Goals as goal

pub returns : goal.returns
returns c = record {
  turned = λ rows tree measures laps g latched measurable c. added_up rows tree measures laps g latched measurable c;
  weighed = λ rows tree measures laps g latched measurable c. weighed rows tree measures laps g latched measurable c;
}
