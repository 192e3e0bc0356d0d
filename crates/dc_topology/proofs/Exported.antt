-- What the crates above may cite of these proofs.

-- What the pass keeps, from slave to slave.
pub use Rattle.dc_topology.proofs.Steps.{IsPass, before_all, one_more, all_listed, surplus, bad_status, missing, moved}
-- Statuses list at most one tree, or have one refusal.
pub use Rattle.dc_topology.proofs.Outcomes.{same_tree, not_both}
-- What hangs below a slave, as its statuses list it.
pub use Rattle.dc_topology.proofs.Hanging.{listed}
