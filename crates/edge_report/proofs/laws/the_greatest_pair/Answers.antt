use Rattle.edge_report.proofs.GreatestPair.{all_within, no_farther, no_wider, spread_reached, window_reached}
use Rattle.edge_report.proofs.laws.the_greatest_pair.Goals as goal

pub returns : goal.returns
returns c = record { spread = no_farther; window = no_wider; spread_reached = spread_reached; window_reached = window_reached; within = all_within }
