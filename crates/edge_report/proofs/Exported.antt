-- What the crates above may cite of these proofs.

-- The slaves of a segment by position.
pub use Rattle.edge_report.proofs.Places.{seen_at, delays_many, slaves_many}
-- A list that is sorted by a number is its elements of the least number, then those of the next one, and so on.
pub use Rattle.edge_report.proofs.Sorting.{keeps_none}
