-- What the crates above may cite of these proofs.

-- The ns of k ticks.
pub use Rattle.local_clock.proofs.Elapsed.{elapsed_most}
-- A reading that rises by less than half the range comes to a value once.
pub use Rattle.local_clock.proofs.Reaching.{ahead, behind_by, ahead_later, still_behind}
-- What the tick by tick definitions say of any number of ticks.
pub use Rattle.local_clock.proofs.ManyTicks.{ticks_to_tick, ticks_on, advanced_reading, advanced_tick, advanced_here, advanced_twice}
pub use Rattle.local_clock.proofs.ManyTicks.{ticks_balance, steered_splits, elapsed_splits}
-- What k ticks work off.
pub use Rattle.local_clock.proofs.WorkedOff.{worked_off}
-- A clock by its history.
pub use Rattle.local_clock.proofs.History.{is_until, is_after, in_turn, not_yet, stands, fits, at_once, one_more}
pub use Rattle.local_clock.proofs.History.{event_instant, event_osc}
-- The local time without wrap.
pub use Rattle.local_clock.proofs.LocalTime.{shown, reading_is, whole_in_turn, whole_stands, whole_here, Rises, rises, with_offset}
-- What a clock has become since it received a difference.
pub use Rattle.local_clock.proofs.Since.{since_receipt}
-- A steering stays steady, through ticks and through a history.
pub use Rattle.local_clock.proofs.Steady.{rests}
-- When the word of a number is behind that of another.
pub use Rattle.local_clock.proofs.Behind.{behind_near}
