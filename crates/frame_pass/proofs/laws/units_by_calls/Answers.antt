use Rattle.frame_pass.proofs.Units.{run_start, run_passed, run_advanced}
use Rattle.frame_pass.proofs.laws.units_by_calls.Goals as goal

pub returns-clause-start : goal.returns-clause-start
returns-clause-start c = run_start

pub returns-clause-frame : goal.returns-clause-frame
returns-clause-frame c = run_passed

pub returns-clause-time : goal.returns-clause-time
returns-clause-time c = run_advanced
