use Rattle.cable_tree.proofs.Renumbered.{is_tree, are_slaves, whole, row_here, places_kept, order_here, children, span_here, arrive_here, port_time_here, lap_here, round_trip_here}
use Rattle.cable_tree.proofs.laws.renumbered_is_the_same_tree.Goals as goal

pub returns : goal.returns
returns c = record {
  tree = is_tree;
  slaves = are_slaves;
  whole = whole;
  rows = row_here;
  places = places_kept;
  order = order_here;
  children = children;
  span = span_here;
  arrive = arrive_here;
  port_time = port_time_here;
  lap = lap_here;
  round_trip = round_trip_here;
}
