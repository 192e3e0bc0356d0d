use Rattle.frame_pass.proofs.Resting.{resets_passed, joined, left_at}
use Rattle.frame_pass.proofs.laws.clocks_at_rest.Goals as goal

pub returns-clause-frame : goal.returns-clause-frame
returns-clause-frame c = resets_passed

pub returns-clause-joined : goal.returns-clause-joined
returns-clause-joined c = joined

pub returns-clause-rests : goal.returns-clause-rests
returns-clause-rests c = left_at
