-- What the crates above may cite of these proofs.

-- Migration changes the version alone, and no check looks at it but for changes of periods in version 1.
pub use Rattle.segment_text.proofs.MigratedLemmas.{migrated_legal}
-- How long the text of a file can be: of its changes of periods, its slaves, its losses and the whole.
pub use Rattle.segment_text.proofs.FileLength.{text_short}
