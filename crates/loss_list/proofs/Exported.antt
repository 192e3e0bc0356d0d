-- What the crates above may cite of these proofs.

-- Losses, and their table.
pub use Rattle.loss_list.proofs.LossLemmas.{unlisted_at, listed_by_loss, lost_nowhere, unlisted_outside}
