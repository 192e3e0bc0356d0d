use Rattle.esc_regs.proofs.Bytes.{whole_number_fits}
use Rattle.esc_regs.proofs.laws.numbers_fit.Goals as goal

pub returns : goal.returns
returns c = whole_number_fits
