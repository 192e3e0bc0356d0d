-- What the crates above may cite of these proofs.

-- The first position of those that are left.
pub use Rattle.dc_delay.proofs.Finding.{found_later}
-- The list of the delays, one position after another.
pub use Rattle.dc_delay.proofs.Listing.{listed, timed_entry, other_entry}
-- From what a shape tells by positions to the rows of its tree.
pub use Rattle.dc_delay.proofs.ByPosition.{reference_at, unmeasurable_at, near_by_latches, near_at}
