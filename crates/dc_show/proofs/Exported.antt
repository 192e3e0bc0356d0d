-- What the crates above may cite of these proofs.

-- An input has one text or one refusal.
pub use Rattle.dc_show.proofs.OneAnswer.{text_or_refusal}
