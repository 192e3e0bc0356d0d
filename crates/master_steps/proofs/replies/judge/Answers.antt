use Rattle.master_frames.proofs.Exported.{alike}
use Rattle.master_steps.proofs.Shapes.{replied, counted}
use Rattle.master_steps.proofs.replies.judge.Goals as goal
use Rattle.std.proofs.Common.{ℕ, List, sym, ◌∙◌, ap}
use Rattle.ecat_frame.specs.FrameGrammar.{FrameValue}
use Rattle.master_frames.specs.Sizes.{sizes}
use Rattle.master_script.specs.Judged.{counters, miscounted}

pub returns-in-Some-clause-is : goal.returns-in-Some-clause-is
returns-in-Some-clause-is c = replied c.args.step _ c.args.sent.now c.args.reply.now c.in-Some.at _ c.first_difference.ensures c.in-Some.is

pub expected-requires-clause-alike : goal.expected-requires-clause-alike
expected-requires-clause-alike c =
    alike c.args.sent.now c.args.reply.now c.in_grammar.ensures c.in_grammar-2.ensures (sym c.in_default.ensures)
    ∙ ap (λ (f : FrameValue). sizes f) c.requires.sent

pub returns-clause-is : goal.returns-clause-is
returns-clause-is c =
    counted c.args.step _ c.args.sent.now c.args.reply.now _ (sym c.in_default.ensures)
    (c.miscounted.ensures ∙ ap (λ (es : List ℕ). miscounted c.args.step es (counters c.args.reply.now)) (c.deref.ensures.0 ∙ c.expected.ensures))

pub returns-clause-alike : goal.returns-clause-alike
returns-clause-alike c none = alike c.args.sent.now c.args.reply.now c.in_grammar.ensures c.in_grammar-2.ensures (sym c.in_default.ensures)
