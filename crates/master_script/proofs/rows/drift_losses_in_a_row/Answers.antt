use Rattle.master_script.proofs.Worked.{start_losing}
use Rattle.master_script.proofs.rows.drift_losses_in_a_row.Goals as goal

pub returns : goal.returns
returns c = start_losing
