-- What the crates above may cite of these proofs.

-- A clock that has nothing to correct.
pub use Rattle.delay_law.proofs.Rest.{of_clock}
-- A clock that receives no difference goes on counting 10 ns a tick.
pub use Rattle.delay_law.proofs.Resting.{Counts, counts_on}
-- Frames that write nothing at a place of any slave, and which steps of commissioning send such frames.
pub use Rattle.delay_law.proofs.Far.{IsCommissioning, IsReading, far_behind, far_left, far_time, far_latch}
-- From each slave to all, over one sending.
pub use Rattle.delay_law.proofs.Stepping.{AtEach, each_after}
-- The slave at a position of a legal file, whatever frames have passed it.
pub use Rattle.delay_law.proofs.Places.{fixed_first, rests_first, measures_there, has_there, kind_there, keeps_there, visits_there, arrives_there, back_there}
-- What a frame of commissioning leaves of all slaves.
pub use Rattle.delay_law.proofs.Frames.{fixed_step, rests_step, holds_step, latch_step}
-- Words of 32 and 64 bits in registers of 8 bytes.
pub use Rattle.delay_law.proofs.Widths.{wide_told, number_split}
-- How far measuring has come: what a master knows and the slaves hold, by the steps that are still to be asked.
pub use Rattle.delay_law.proofs.Measuring.{IsFirst, reading_steps, IsUnjudged, IsJudged, IsOpen, IsLatched, IsMeasuring, turned_keeps}
pub use Rattle.delay_law.proofs.Measuring.{first_asked, rate_asked}
-- The commissioning of a legal file, exchange by exchange.
pub use Rattle.delay_law.proofs.Runs.{IsAsked, first_clock, IsOnWay, late_of, unrefused, phase, asks, after_is, sends_step, walk, starts}
-- What a commissioning that ended with Ok leaves: the receive times of the Latch that came back, in the slaves and with the master.
pub use Rattle.delay_law.proofs.Ended.{way_of, latched, late, at_end, sent_at, told}
-- The delays of a commissioning that ended with Ok lie within the delay bound.
pub use Rattle.delay_law.proofs.Near.{kept_delays, commissioned_near}
-- What commissioning has measured stays to the end of a run.
pub use Rattle.delay_law.proofs.Staying.{later_near, whole_near}
