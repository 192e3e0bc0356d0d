use Rattle.run_counts.proofs.Staying.{ran_delays, whole_delays}
use Rattle.run_counts.proofs.laws.delays_stay.Goals as goal

pub returns : goal.returns
returns c = record { ran = ran_delays; whole = whole_delays }
