-- What the crates above may cite of these proofs.

-- A run keeps the slaves of its segment, and their edges numbered.
pub use Rattle.segment_bench.proofs.Wires.{IsWireOf, run_keeps}
