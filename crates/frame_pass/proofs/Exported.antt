-- What the crates above may cite of these proofs.

-- How many bytes registers have.
pub use Rattle.frame_pass.proofs.Sizes.{HasSize, size_written, size_holding, size_stamped, size_shown}
-- A property of slaves that time, writes and port latches keep is kept by frames.
pub use Rattle.frame_pass.proofs.Keeping.{IsVisited, Keeps, kept_passed, kept_by_all}
-- A slave stays sound: its registers keep their size, and its present time is not past a time.
pub use Rattle.frame_pass.proofs.Sound.{keeps_sound, visited, timely_leaving, timely_step}
-- What slaves leave of a frame.
pub use Rattle.frame_pass.proofs.Reply.{no_difference}
-- When frames are sent.
pub use Rattle.frame_pass.proofs.Schedule.{is_below, step_sent, next_leaves, on_time_step, sending_times, is_lost, is_not_sent}
-- The told clock is that of its history.
pub use Rattle.frame_pass.proofs.History.{of_advanced, of_passed, of_start}
-- The told unit and its edges are those of its calls.
pub use Rattle.frame_pass.proofs.Units.{run_start, run_passed, run_advanced}
-- A unit that a datagram arms or disarms, and a frame that arms it at its arrival.
pub use Rattle.frame_pass.proofs.Arming.{HasUnit, armed_after, disarmed_after, armed_passed}
-- What changes registers, and what does not.
pub use Rattle.frame_pass.proofs.Plain.{plain_datagram, plain_time, plain_passed, left_passed}
-- What never changes of a slave, and of a segment.
pub use Rattle.frame_pass.proofs.Fixed.{fixed_advanced, fixed_passed, same_step, same_finished}
-- What a step does to the slave at a position.
pub use Rattle.frame_pass.proofs.AtPositions.{step_slaves, step_reached, step_stays, finished_at, not_latching}
-- Which bytes a write never stores.
pub use Rattle.frame_pass.proofs.Table.{is_shut, shut}
-- What the effects of a write leave of a slave's clock and registers.
pub use Rattle.frame_pass.proofs.Effects.{times_left, size_advanced}
-- What the datagrams of a frame leave in the receive times.
pub use Rattle.frame_pass.proofs.Latching.{size_after, quiet_passed}
-- What the ports take that latch, and the receive times behind a frame.
pub use Rattle.frame_pass.proofs.Ports.{goes_behind, latched_passed}
-- What the datagram of a drift frame does at a slave.
pub use Rattle.frame_pass.proofs.Drifting.{passes_refused, left_unwritten, quiet_unwritten, kept_unread, not_covered, events_first}
pub use Rattle.frame_pass.proofs.Drifting.{same_refusal, frame_receives, frame_addressed, first_is, behind_others, carried}
-- A datagram on its way through slaves.
pub use Rattle.frame_pass.proofs.Counting.{passed_at, does_at, IsSent, is_sent, address_raised, data_kept, counts, one_gains, all_gain, other_station}
-- The local copies of calls are those of the history.
pub use Rattle.frame_pass.proofs.Copying.{start_copies, frame_copies, time_copies, time_then}
-- A datagram that addresses one slave by its station address.
pub use Rattle.frame_pass.proofs.Stations.{Found, found, IsByStation, passed_on, arrives, station_read, station_written}
-- Clocks that receive no difference, and readings as advances.
pub use Rattle.frame_pass.proofs.Resting.{resets_passed}
-- Frames that write none of the bytes at a place.
pub use Rattle.frame_pass.proofs.Asides.{idle, apart_where_written, is_plain, left_by, same_size, aside_behind, never_latching, never_activating}
-- What a datagram stores.
pub use Rattle.frame_pass.proofs.Storage.{stores_number}
-- Sound slaves, one by one.
pub use Rattle.frame_pass.proofs.SoundSlaves.{sound_at, sizes_of}
