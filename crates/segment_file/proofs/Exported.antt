-- What the crates above may cite of these proofs.

-- The counts of a segment's rows.
pub use Rattle.segment_file.proofs.CountLemmas.{count_by-cons, counted}
-- What a legal segment has.
pub use Rattle.segment_file.proofs.LegalLemmas.{faultless, legal_frames, few_to_lock, few_in_run, legal_round_trip, legal_reference}
pub use Rattle.segment_file.proofs.LegalLemmas.{legal_measurable, rows_many, order_many, row_within}
-- The losses of a legal segment.
pub use Rattle.segment_file.proofs.LossLaws.{one_comes}
-- A segment is what its written file says.
pub use Rattle.segment_file.proofs.WrittenLemmas.{parents_within, written_file, text_legal, written_text}
-- The oscillators of a legal segment.
pub use Rattle.segment_file.proofs.ClockLaws.{legal_clocks}
-- A text has one answer.
pub use Rattle.segment_file.proofs.AnswerLemmas.{one_segment, legal_unrefused}
