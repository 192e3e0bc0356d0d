use Rattle.esc_regs.proofs.Whole.{written_whole, shown_whole}
use Rattle.esc_regs.proofs.laws.stay_whole.Goals as goal

pub returns : goal.returns
returns c = record { written = written_whole; shown = shown_whole }
