use Rattle.esc_regs.proofs.Storing.{rate_bounds}
use Rattle.esc_regs.proofs.laws.rates_told.Goals as goal

pub returns : goal.returns
returns c = rate_bounds
