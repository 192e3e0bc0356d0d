-- What the crates above may cite of these proofs.

-- The words of numbers less than half of 2^w apart are as far apart as the numbers.
pub use Rattle.wrap_time.proofs.Near.{word_difference_near}
-- Sums and differences of the words of numbers.
pub use Rattle.wrap_time.proofs.Cuts.{sum_of_cut, cut_of_cut, difference_of_cut, latched_difference, offset_sum}
-- A low half beside a time that is near.
pub use Rattle.wrap_time.proofs.Extending.{times_extended}
