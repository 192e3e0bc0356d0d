use Rattle.std.proofs.Common.{◌≡◌, ◌+◌, arith}
use Rattle.lost_step.specs.LostStep.{first_arming}
use Rattle.lost_step.proofs.Commission.{lost_early, lost_nowhere, lost_late}
use Rattle.lost_step.proofs.phases.lost_step.Goals as goal

pub returns-in-Err : goal.returns-in-Err
returns-in-Err c = lost_early c.args.segment.now c.args.with_arming c.in-Err.step c.in-Err.ensures

pub returns-then-not-with_arming : goal.returns-then-not-with_arming
returns-then-not-with_arming c = lost_nowhere c.args.segment.now c.args.with_arming c.in_default.field-0 c.in_default.ensures c.if-not-with_arming.true

pub returns : goal.returns
returns c =
    let s = c.args.segment.now in
    let lock = c.lock_in.ensures.is in
    let run = c.loss_run.ensures.is in
    let as_number = c.from.ensures in
    let first : c.lock_in.result + c.from.result + 2 ≡ first_arming s = omega (arith, lock, run, as_number) in
    lost_late s c.args.with_arming c.in_default.field-0 (c.lock_in.result + c.from.result + 2) c.ask_each.result c.err.result c.in_default.ensures c.if-not-with_arming.false first c.ask_each.ensures.is c.err.ensures.value
