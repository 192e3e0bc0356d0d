use Rattle.cable_tree.proofs.Inside.{lap_inside, lap_spans, port_time_inside}
use Rattle.cable_tree.proofs.Members.{inside}
use Rattle.cable_tree.proofs.laws.inside_the_round_trip.Goals as goal

pub returns : goal.returns
returns c = record { slave = inside; span = lap_spans; lap = lap_inside; port_time = port_time_inside }
