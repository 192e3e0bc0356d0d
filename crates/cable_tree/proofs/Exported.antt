-- What the crates above may cite of these proofs.

-- Who hangs where, read from the rows and from the ports.
pub use Rattle.cable_tree.proofs.Children.{at_spot, at_same, child_hangs, child_is, root_of}
-- How deep a tree is: one level more than there are changes nothing, and n rows have at most n.
pub use Rattle.cable_tree.proofs.Levels.{none_some, some_same, tree_induction, subtree_is, span_is, arrive_at_child}
-- A parent leads to the root in one step less.
pub use Rattle.cable_tree.proofs.Checked.{parent_leads, leads_nowhere}
-- Arrivals rise along the frame order, and stay inside the round trip.
pub use Rattle.cable_tree.proofs.Rising.{tp_some, subtree_few, order_pair, order_once, order_within}
-- Every row is in the frame order, between its parent and its children.
pub use Rattle.cable_tree.proofs.Members.{every_row, place_of, inside, order_whole}
-- The refusals: at most one is right, and none is where the rows are a tree.
pub use Rattle.cable_tree.proofs.Refused.{refusal_same, tree_unrefused}
-- Hops: from one connected port of a slave to the next.
pub use Rattle.cable_tree.proofs.Laps.{port_time_of, span_of_laps, hop_place, pass_step, laps_rise}
-- What a frame does between two visits of one slave lies within the round trip.
pub use Rattle.cable_tree.proofs.Inside.{lap_inside, port_time_inside}
-- Where the rows stand in the frame order.
unfoldable pub use Rattle.cable_tree.proofs.Standing.{Stands}
pub use Rattle.cable_tree.proofs.Standing.{stands_first, stands_later, stands_front, stands_behind, position_at, row_within, order_at}
pub use Rattle.cable_tree.proofs.Standing.{order_stands}
-- The rows in frame order, with parents by position, are the same tree.
pub use Rattle.cable_tree.proofs.Renumbered.{whole, above_here, same_row, is_tree, are_slaves, children, arrive_here, lap_here, order_moved}
pub use Rattle.cable_tree.proofs.Renumbered.{order_here, round_trip_here, places_kept}
