use Rattle.esc_regs.proofs.Storing.{written_stores}
use Rattle.esc_regs.proofs.laws.write_stores.Goals as goal

pub returns : goal.returns
returns c = written_stores
