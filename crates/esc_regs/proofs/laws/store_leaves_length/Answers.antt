use Rattle.esc_regs.proofs.Numbers.{same_length}
use Rattle.esc_regs.proofs.laws.store_leaves_length.Goals as goal

pub returns : goal.returns
returns c = same_length
