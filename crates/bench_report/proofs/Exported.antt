-- What the crates above may cite of these proofs.

-- The delays that the master of a bench has measured.
pub use Rattle.bench_report.proofs.Measured.{commissioned_delays, run_delays}
