use Rattle.std.proofs.Common.{sym}
use Rattle.master_frames.proofs.Exported.{alike}
use Rattle.master_steps.proofs.Shapes.{replied, counted}
use Rattle.master_steps.proofs.drift.judge_drift.Goals as goal
use Rattle.master_script.specs.declared.step.Step.TheVariants.{Drift}

pub returns-in-Some-clause-is : goal.returns-in-Some-clause-is
returns-in-Some-clause-is c = replied (Drift c.args.number) _ c.args.sent.now c.args.reply.now c.in-Some.at _ c.first_difference.ensures c.in-Some.is

pub returns-clause-is : goal.returns-clause-is
returns-clause-is c = counted (Drift c.args.number) _ c.args.sent.now c.args.reply.now _ (sym c.in_default.ensures) c.miscounted.ensures

pub returns-clause-alike : goal.returns-clause-alike
returns-clause-alike c none = alike c.args.sent.now c.args.reply.now c.in_grammar.ensures c.in_grammar-2.ensures (sym c.in_default.ensures)
