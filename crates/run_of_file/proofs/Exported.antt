-- What the crates above may cite of these proofs.

-- The numbers of the master of a legal segment.
pub use Rattle.run_of_file.proofs.InRange.{as_many_kinds, as_many_plans, some_rows, few_rows, lock_in_few, loss_run_few, frames_few}
-- Every phase of a run ends, follows the script, and lets time go on.
pub use Rattle.run_of_file.proofs.Ending.{commissioned_from_on, settled_from_on, armed_from_on, ran_from_on, commissioned_on, settled_on, armed_on, ran_on}
-- A master over a segment makes the run of the file, call by call.
pub use Rattle.run_of_file.proofs.Calls.{commissioned_from_by, settled_from_by, armed_from_by, ran_from_by, commissioned_by, settled_by, armed_by, ran_by}
-- The exchanges of a run are those that the segment makes of its frames, from its start on.
pub use Rattle.run_of_file.proofs.FromStart.{IsFromStart, commissioned_exchanges, settled_exchanges, armed_exchanges, ran_exchanges, kept_by_runs, ran_few}
-- How a run ends behind each phase.
pub use Rattle.run_of_file.proofs.Refused.{commissioned_from_ends, settled_from_ends, armed_from_ends, ran_from_ends, whole_from_ends_so, ran_ends, armed_ends, settled_ends, commissioned_ends, whole_ends_so}
-- The run of a file is the run from the start that the file gives.
pub use Rattle.run_of_file.proofs.AtStart.{commissioned_at_start, settled_at_start, armed_at_start, ran_at_start, run_at_start}
