use Rattle.esc_regs.proofs.Storing.{written_kind}
use Rattle.esc_regs.proofs.laws.write_leaves_kind.Goals as goal

pub returns : goal.returns
returns c = written_kind
