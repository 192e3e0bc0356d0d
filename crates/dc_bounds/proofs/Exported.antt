-- What the crates above may cite of these proofs.

-- The ticks of an interval and its length, where each gap is within e of 10,000,000 fs.
pub use Rattle.dc_bounds.proofs.IntervalFacts.{ticks_in_interval}
-- How the bounds grow.
pub use Rattle.dc_bounds.proofs.Growth.{tick_gap_rises, jump_rises, least_ticks_rise, count_gap_rises, tick_gap_near, quarter}
pub use Rattle.dc_bounds.proofs.Growth.{jump_within, within_jump, two_clocks}
-- Steps towards the root, to the measuring parent.
pub use Rattle.dc_bounds.proofs.Upwards.{parent_measures, parent_within, lower_measuring}
-- The rows in frame order have the measuring parents, weights and reference of the rows of the file.
pub use Rattle.dc_bounds.proofs.ByPosition.{reference_here, unmeasurable_here, find_low, weight_here}
-- How large a weight can be.
pub use Rattle.dc_bounds.proofs.WeightSize.{weight_few}
-- What the lock numbers give.
pub use Rattle.dc_bounds.proofs.Locking.{some_fall, fall_is, sure, enough, falls, silence_within, reach_few}
-- A clock that is drawn to the reference, receipt by receipt.
pub use Rattle.dc_bounds.proofs.Drawing.{drawn_first, drawn_next, drawn_locked, drawn_within, next_drift, next_left}
-- How near two copies stay to each other, and the edges that they raise.
pub use Rattle.dc_bounds.proofs.Staying.{copies_near, edges_near}
-- That the start lies ahead of every arming, and that a run lasts until the last edge.
pub use Rattle.dc_bounds.proofs.RunLength.{start_after, start_soon, lead_periods, ahead, not_far, start_fits}
pub use Rattle.dc_bounds.proofs.RunLength.{frames_cover, long_enough, last_edge}
-- Which slave has no weight.
pub use Rattle.dc_bounds.proofs.Weightless.{weightless, boundless}
-- The reference is the first clock in frame order, and so the first one at which a frame arrives.
pub use Rattle.dc_bounds.proofs.FirstClock.{reference_within, reference_timed, reference_first}
