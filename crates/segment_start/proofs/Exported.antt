-- What the crates above may cite of these proofs.

-- The registers at the start.
pub use Rattle.segment_start.proofs.Registers.{start_size}
-- The slaves of a legal segment as they begin.
pub use Rattle.segment_start.proofs.Starts.{starts_timely, as_many, stands_at}
-- What stands at a position, and in which order a frame visits a slave.
pub use Rattle.segment_start.proofs.Visits.{row_in_turn}
-- A segment's slaves stay so from its start on.
pub use Rattle.segment_start.proofs.AtSegments.{numbers_step, numbers_finished, numbers_begin}
