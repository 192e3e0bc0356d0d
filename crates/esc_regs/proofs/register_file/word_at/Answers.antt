use Rattle.std.proofs.Common.{get_or, Fits, w8, arith}
use Rattle.esc_regs.proofs.Numbers.{number_fits}
use Rattle.esc_regs.proofs.register_file.word_at.Goals as goal

pub returns-clause-low : goal.returns-clause-low
returns-clause-low g c = number_fits 4 c.args.at c.args.bytes.now (λ j. let fit : Fits w8 (get_or c.args.bytes.now j 0) = c.type_inv.bytes j in omega arith)
