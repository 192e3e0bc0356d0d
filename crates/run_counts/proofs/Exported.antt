-- What the crates above may cite of these proofs.

-- What one sending makes of the numbers of a segment, and whether its frame comes back.
pub use Rattle.run_counts.proofs.Stepping.{NumbersOn, step_numbers, step_back}
-- The segment and the script count alike.
pub use Rattle.run_counts.proofs.Numbers.{few_sent, some_kinds, in_phase, frames_of, frame_phase, InStep, master_frame_ns, step_in_step}
pub use Rattle.run_counts.proofs.Numbers.{starts_in_step, in_step, stands_after}
-- What holds from exchange to exchange of a call.
pub use Rattle.run_counts.proofs.Walking.{IsNext, walk}
-- How a call of the script ends, and what it asks.
pub use Rattle.run_counts.proofs.Ends.{ended, refused_at_end, never_spent, step_asked}
-- A call behind those before it.
pub use Rattle.run_counts.proofs.Led.{off, on, IsLed, HasGone, led_on, Followed, followed}
-- How many frames each phase sends.
pub use Rattle.run_counts.proofs.Lengths.{IsBehind, stays_behind}
-- Exchanges of a phase, try by try, by the numbers of its frames alone.
pub use Rattle.run_counts.proofs.Tries.{begins}
-- No reply is refused as a lost step.
pub use Rattle.run_counts.proofs.Replies.{judged_other}
-- Commissioning: which step its exchanges have come to, by the list of losses.
pub use Rattle.run_counts.proofs.Commissioning.{beginning_stands, after_stands}
-- Settling: as long as no frame brought the time of the reference, all of them were lost.
pub use Rattle.run_counts.proofs.Settling.{after_settles}
-- Arming: which step its exchanges have come to, by the list of losses.
pub use Rattle.run_counts.proofs.Arming.{after_arms}
-- The positions of a kind are as many as its rows.
pub use Rattle.run_counts.proofs.Positions.{measuring_counted, clocks_counted, commissioning_counted}
-- How many numbers exchanges use.
pub use Rattle.run_counts.proofs.StepNumbers.{numbers_used}
-- The answer of commissioning, by the list of losses.
pub use Rattle.run_counts.proofs.Commissioned.{has_commissioned, commission_came}
-- Settling ends with Ok, and arming begins behind K + m + 1 drift frames.
pub use Rattle.run_counts.proofs.Settled.{one_drift_comes}
-- The answer of arming, by the list of losses.
pub use Rattle.run_counts.proofs.ArmingRun.{master_first, arm_stands, arm_done}
-- The answers of all phases, by the list of losses.
pub use Rattle.run_counts.proofs.Joined.{commissioned_answers, settled_answers, is_settled, armed_answers, ran_answers}
-- How many frames a run has sent behind each phase that ended with Ok.
pub use Rattle.run_counts.proofs.Shape.{commissioned_sends, settled_sends, ran_sends, armed_sends}
-- Replies in the run of a legal segment are honest.
pub use Rattle.run_counts.proofs.Premise.{honest_replies}
-- The whole run has the answer and the exchanges of its last phase.
pub use Rattle.run_counts.proofs.Whole.{whole_follows, whole_answers}
-- What commissioning has measured stays to the end of a run.
pub use Rattle.run_counts.proofs.Staying.{whole_delays}
-- A segment without losses loses no step.
pub use Rattle.run_counts.proofs.Lossless.{lossless}
-- The phases of a run, one behind another, by the numbers of their frames.
pub use Rattle.run_counts.proofs.Drifted.{Drifted, commission_none, commission_drifted, settled_drifted, armed_drifted, ran_drifted}
-- The frames of a run that is not refused, phase by phase.
pub use Rattle.run_counts.proofs.Counting.{whole_counted}
-- What a master has counted at the end of a run.
pub use Rattle.run_counts.proofs.AtEnd.{delays_at_end, commissioning_few, whole_few}
