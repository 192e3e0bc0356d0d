use Rattle.segment_bounds.proofs.Greatest.{no_pair_above, of_one_pair, either_order}
use Rattle.segment_bounds.proofs.laws.the_window_is_the_greatest.Goals as goal

pub returns : goal.returns
returns c = record { pairs = no_pair_above; one = of_one_pair; either_order = either_order }
