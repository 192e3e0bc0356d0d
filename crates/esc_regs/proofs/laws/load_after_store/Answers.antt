use Rattle.esc_regs.proofs.Numbers.{number_again}
use Rattle.esc_regs.proofs.laws.load_after_store.Goals as goal

pub returns : goal.returns
returns c = number_again
