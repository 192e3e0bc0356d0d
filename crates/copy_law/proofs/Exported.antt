-- What the crates above may cite of these proofs.

-- Which places the frames of a script leave.
pub use Rattle.copy_law.proofs.Untouching.{offset_untouched, delay_untouched}
-- Datagrams for which no slave writes a place stay so on their way, and each slave leaves it.
pub use Rattle.copy_law.proofs.Unwritten.{datagrams_none, left_none}
-- A frame that does not write a place leaves of the slaves what only such a write changes.
pub use Rattle.copy_law.proofs.Slaves.{IsQuiet, IsKept, plain_held, corrections_kept, frames_alike, finished_alike}
-- Behind commissioning the slaves hold what they held.
pub use Rattle.copy_law.proofs.Held.{settled_holds, armed_holds, ran_holds}
-- The states behind drift frames: the way there, and what each frame keeps of them.
pub use Rattle.copy_law.proofs.Drifting.{begins_behind, frame_there, last_behind, found_behind, comes_back, left_behind, same_first, same_before, one_behind, one_before, last_frame, behind_induction}
-- What holds of these states: the run as if it ended there, what drift frames keep of slaves, and the rest of the law.
pub use Rattle.copy_law.proofs.Standing.{file_first, file_step, cut, from_start, scripted, drifted, behind_alike, corrections_behind, stands_behind}
-- The reference of a file is the clock that commissioning finds.
pub use Rattle.copy_law.proofs.First.{reference_low, reference_clock, behind_reference}
pub use Rattle.copy_law.proofs.References.{is_first_clock, in_bounds, keeps_time, counts, is_told, has_no_delay}
-- How many frames of commissioning follow the Latch that came back.
pub use Rattle.copy_law.proofs.FewBehind.{some_latched, few_behind}
-- Each clock corrects as the file's speed says.
pub use Rattle.copy_law.proofs.Rated.{still_correct, commissioned_correct, settled_correct, armed_correct, ran_correct, whole_correct}
-- The clocks of a run by their histories, whatever exchanges have passed since the start of the file.
pub use Rattle.copy_law.proofs.History.{history_then, history_one, running, has_there, has_behind}
-- The Latch that came back is one of the frames that were sent.
pub use Rattle.copy_law.proofs.Latched.{latched_within}
-- The local time without wrap, where events are resets alone, or are none yet.
pub use Rattle.copy_law.proofs.Whole.{whole_not_yet, order_later, whole_rests}
-- What commissioning brings a clock, and what each drift frame adds to its history.
pub use Rattle.copy_law.proofs.Histories.{first_resets, history_induction, frame_induction}
-- The local copy of a clock as a whole number, behind drift frames and in the whole run, and that of the reference.
pub use Rattle.copy_law.proofs.Copies.{the_reference, told_reference, IsSplit, split_behind, ordered, time_at_latch, time_rises, copy_behind}
pub use Rattle.copy_law.proofs.Copies.{reference_history, reference_counts, reference_behind, copy_then, reference_then}
-- So is the system time that a slave has behind drift frames.
pub use Rattle.copy_law.proofs.SystemTimes.{time_behind}
-- What a drift frame brings a clock is the whole difference of its time and the reference's.
pub use Rattle.copy_law.proofs.Receiving.{history, time_there, reference_whole, brings_none, brings_one}
-- A clock is drawn by the last frame that came to it.
pub use Rattle.copy_law.proofs.Drawing.{silent_few, ticks_over, drawn_on, drawing}
-- The history of a clock in a run, cut at an instant.
pub use Rattle.copy_law.proofs.Passing.{IsCut, cut_at}
-- No late difference is above the drift of loss_run + 1 periods.
pub use Rattle.copy_law.proofs.Locked.{locked}
-- The copies of a run are near each other, as whole numbers and as words.
pub use Rattle.copy_law.proofs.CopiesNear.{further, wire_delay_is, small_bound, half_range, commissioned_first, in_rows, whole_copies_near, copies_stay}
-- How many frame periods lie between two frames.
pub use Rattle.copy_law.proofs.LockSizes.{periods_between}
-- What a drift frame that comes back tells of the time of the reference.
pub use Rattle.copy_law.proofs.Replies.{low_told}
-- A number that a datagram stores, as it is read again.
pub use Rattle.copy_law.proofs.Registers.{number_brought, word_is}
