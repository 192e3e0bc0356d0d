use Rattle.frame_pass.proofs.Copying.{time_then}
use Rattle.frame_pass.proofs.laws.system_times.Goals as goal

pub returns : goal.returns
returns c = time_then
