use Rattle.master_script.proofs.Limits.{sends_few, sends_most}
use Rattle.master_script.proofs.laws.sendings_are_few.Goals as goal

pub returns : goal.returns
returns c = record { few = sends_few; greatest = sends_most }
