-- What the crates above may cite of these proofs.

-- The text of a written file is read as the value that says it.
pub use Rattle.segment_shape.proofs.FileTextLemmas.{file_text_read}
-- The numbers of a file lie in their ranges.
pub use Rattle.segment_shape.proofs.RangeLemmas.{file_ranges}
-- A file's written value says it.
pub use Rattle.segment_shape.proofs.WrittenLemmas.{file_read}
