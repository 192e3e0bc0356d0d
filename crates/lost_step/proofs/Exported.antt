-- What the crates above may cite of these proofs.

-- Exchanges, one after another.
pub use Rattle.lost_step.proofs.Asking.{none_comes, behind_came, asked_ok, asked_few}
-- The exchanges of commissioning and of arming, a round at a time.
pub use Rattle.lost_step.proofs.Commission.{behind_identify}
