-- What the crates above may cite of these proofs.

-- What a list keeps of the edges that are raised into it.
pub use Rattle.sync_units.proofs.Kept.{put_all-append, kept}
pub use Rattle.sync_units.proofs.KeptOfSignal.{kept_of_signal}
-- When a unit that was armed raises its edges.
pub use Rattle.sync_units.proofs.Exact.{exact, exact_none, edge_unique}
-- Edges of copies that are the words of rising numbers.
pub use Rattle.sync_units.proofs.Rising.{rising_edge}
-- Calls one after the other, and one call over all of their ticks.
pub use Rattle.sync_units.proofs.Calls.{unit_in_turn, list_in_turn}
-- How many ticks a unit can spare.
pub use Rattle.sync_units.proofs.Spare.{unit_spared, edges_spared, left_spare}
