use Rattle.master_script.proofs.Staying.{stays_kept}
use Rattle.master_script.proofs.laws.kept_stays_kept.Goals as goal

pub returns : goal.returns
returns c = stays_kept
