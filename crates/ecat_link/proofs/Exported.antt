-- What the crates above may cite of these proofs.

-- Exchanges one after another.
pub use Rattle.ecat_link.proofs.Serving.{runs_then, serves_none, serves_one, serves_then, serves_weaker}
-- Exchanges that follow a script, and the run of the script.
pub use Rattle.ecat_link.proofs.Driving.{run_is, driven}
-- Losses of exchanges, and of calls.
pub use Rattle.ecat_link.proofs.Losses.{lost_then}
-- Tries of a frame: what a script sends, where it wants the frame and wants it again after each of the first two losses.
pub use Rattle.ecat_link.proofs.Trying.{sends_tries, serves_tries}
