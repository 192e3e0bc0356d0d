use Rattle.frame_pass.proofs.History.{of_start, of_passed, of_advanced}
use Rattle.frame_pass.proofs.laws.clocks_by_history.Goals as goal

pub returns-clause-start : goal.returns-clause-start
returns-clause-start c = of_start

pub returns-clause-frame : goal.returns-clause-frame
returns-clause-frame c = of_passed

pub returns-clause-time : goal.returns-clause-time
returns-clause-time c = of_advanced
