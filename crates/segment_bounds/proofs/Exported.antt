-- What the crates above may cite of these proofs.

-- The sizes of the bounds of a legal segment, and where they are 0.
pub use Rattle.segment_bounds.proofs.BoundLemmas.{small_copy_bound, delay_short}
-- What the greatest number of pairs is.
pub use Rattle.segment_bounds.proofs.Greatest.{most, either_order}
