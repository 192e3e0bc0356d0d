use Rattle.frame_pass.proofs.Copying.{start_copies, frame_copies, time_copies}
use Rattle.frame_pass.proofs.laws.copies_by_history.Goals as goal

pub returns-clause-start : goal.returns-clause-start
returns-clause-start c = start_copies

pub returns-clause-frame : goal.returns-clause-frame
returns-clause-frame c = frame_copies

pub returns-clause-time : goal.returns-clause-time
returns-clause-time c = time_copies
