use Rattle.esc_regs.proofs.Zeros.{narrow_half}
use Rattle.esc_regs.proofs.laws.narrow_numbers.Goals as goal

pub returns : goal.returns
returns c = narrow_half
