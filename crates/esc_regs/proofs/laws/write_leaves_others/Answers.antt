use Rattle.esc_regs.proofs.Storing.{untouched, unwritable}
use Rattle.esc_regs.proofs.laws.write_leaves_others.Goals as goal

pub returns-clause-apart : goal.returns-clause-apart
returns-clause-apart c = untouched

pub returns-clause-unwritable : goal.returns-clause-unwritable
returns-clause-unwritable c = unwritable
