-- What the crates above may cite of these proofs.

-- Where a script stands after one exchange more.
pub use Rattle.master_script.proofs.Folds.{progress_push}
-- What a master keeps between two calls says at which place of the script it stands.
pub use Rattle.master_script.proofs.Pins.{SoundBy, progress_sound, commissioned_pins, settled_pins, armed_pins}
-- The numbers of sendings and of losses are those of the list.
pub use Rattle.master_script.proofs.Counts.{after_counts, after_drifts, progress_sent, kept_counts, fresh_pins}
-- The tree as a function is the tree that the statuses list, and its refusal is theirs.
pub use Rattle.master_script.proofs.Trees.{tree_listed, tree_refused}
-- A step that is asked: the arms of a loop of three tries, for commissioning and arming at once.
pub use Rattle.master_script.proofs.Asks.{AsksIn, Sent, asking, ask_lost, ask_came}
-- Drift frames of settling and of running: the arms of the two loops of so many frames.
pub use Rattle.master_script.proofs.Drifts.{settle_at, AtSettle, run_at, settle_lost, settle_came, run_one_more}
-- How a call ends: one lemma for all calls and answers.
pub use Rattle.master_script.proofs.Ends.{ends_at}
-- How much a script sends at most: 9 (n + 1) in commissioning, K + m + 1 in settling, 3 n in arming, and the run frames.
pub use Rattle.master_script.proofs.Limits.{sends_most, calls_scripted, call_ends}
-- The steps that are still to be asked, counted.
pub use Rattle.master_script.proofs.Todo.{one_identify, identifies, later_none, learned_reference}
-- The positions that steps and words name are those of slaves, and each phase asks its own steps.
pub use Rattle.master_script.proofs.Within.{hung_length, judged_below, StepWithin, IsOf}
-- What it means that a call wants a frame: the frame is that of a step of the call's phase.
pub use Rattle.master_script.proofs.Wants.{phase_of, wants, wanted_drift, wanted_other}
-- What a judgement says of a reply.
pub use Rattle.master_script.proofs.Replies.{reply_told, counter_told}
-- A judgement is that of the reply, told of a step.
pub use Rattle.master_script.proofs.Faults.{judged_by_fault}
-- What a master keeps stays kept.
pub use Rattle.master_script.proofs.Staying.{stays_kept}
-- What a stage says of the rest that is kept.
pub use Rattle.master_script.proofs.Stages.{drifts_told, start_told}
-- How many frames a call sends that ends with Ok, and where the next phase begins.
pub use Rattle.master_script.proofs.Calls.{settle_sends, arm_sends, run_sends, commission_done}
-- Of a configuration the measured delays read the kinds alone.
pub use Rattle.master_script.proofs.Measured.{delays_by_kinds, delay_by_kinds}
