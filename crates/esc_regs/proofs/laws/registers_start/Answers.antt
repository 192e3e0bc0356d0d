use Rattle.esc_regs.proofs.Starting.{start_whole, start_numbers}
use Rattle.esc_regs.proofs.laws.registers_start.Goals as goal

pub returns : goal.returns
returns c = record { whole = start_whole; numbers = start_numbers }
