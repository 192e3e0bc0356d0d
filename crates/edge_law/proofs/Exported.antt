-- What the crates above may cite of these proofs.

-- What one visit of a frame makes of the unit of a clock.
pub use Rattle.edge_law.proofs.ArmingVisit.{RunsSince, later_visit, own_visit, quiet_visit}
-- So does one frame of a run, over the segment of its file.
pub use Rattle.edge_law.proofs.ArmingStep.{HasParts, own_step, parts_there, quiet_step}
-- The unit of each clock at the end of a run that was not refused.
pub use Rattle.edge_law.proofs.ArmedRuns.{ran_armed, whole_armed}
-- Where two edges of a run are, and that all lie within the window.
pub use Rattle.edge_law.proofs.EndOfRun.{IsWholeRun, parts, IsEdgeOf, edge_of_run}
pub use Rattle.edge_law.proofs.InWindow.{within_window}
