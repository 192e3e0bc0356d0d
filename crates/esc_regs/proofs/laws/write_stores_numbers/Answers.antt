use Rattle.esc_regs.proofs.Storing.{stored_number}
use Rattle.esc_regs.proofs.laws.write_stores_numbers.Goals as goal

pub returns : goal.returns
returns c = stored_number
