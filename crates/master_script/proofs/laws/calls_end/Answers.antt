use Rattle.master_script.proofs.Limits.{call_ends}
use Rattle.master_script.proofs.laws.calls_end.Goals as goal

pub returns : goal.returns
returns g c = call_ends
