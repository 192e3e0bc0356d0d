-- What the crates above may cite of these proofs.

-- The bytes of a number that is written at a place, and of all others.
pub use Rattle.esc_regs.proofs.Numbers.{same_numbers, same_length, apart, number_again}
-- What a row of the table says of the bytes at its address.
pub use Rattle.esc_regs.proofs.TableFacts.{both, within_test, before_test, past_test, held_all, held_few}
-- The numbers of all registers after those that do not start at 0 are set.
pub use Rattle.esc_regs.proofs.Starting.{start_numbers, start_whole}
-- A write as a function: the bytes that it leaves are determined.
pub use Rattle.esc_regs.proofs.Storing.{not_past, written_kind, rate_bounds, untouched, unwritable, stored_number}
-- A read with a live number laid over what is held.
pub use Rattle.esc_regs.proofs.Showing.{range_byte, range_length, showing_length}
