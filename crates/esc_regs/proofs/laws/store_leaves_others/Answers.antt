use Rattle.esc_regs.proofs.Numbers.{apart}
use Rattle.esc_regs.proofs.laws.store_leaves_others.Goals as goal

pub returns : goal.returns
returns c = apart
