use Rattle.std.proofs.Common.{◌∙◌, sym, ap}
use Rattle.ecat_frame.proofs.Apart.{ahead}
use Rattle.ecat_frame.proofs.Heads.{commands_apart, indices_apart, ados_apart, length_words}
use Rattle.ecat_frame.proofs.difference.head_difference.Goals as goal

pub returns-then-code-clause-is : goal.returns-then-code-clause-is
returns-then-code-clause-is c =
    sym (commands_apart c.args.sent.now c.args.reply.now (λ same. c.if-code.true (c.code.ensures ∙ same ∙ sym c.code-2.ensures)))

pub returns-then-sent-reply-clause-is : goal.returns-then-sent-reply-clause-is
returns-then-sent-reply-clause-is c =
    sym (indices_apart c.args.sent.now c.args.reply.now (sym c.code.ensures ∙ c.if-code.false ∙ c.code-2.ensures) c.if-sent-reply.true)

pub returns-in-Some-clause-is : goal.returns-in-Some-clause-is
returns-in-Some-clause-is c =
    sym (ados_apart c.args.sent.now c.args.reply.now c.in-Some.at (sym c.code.ensures ∙ c.if-code.false ∙ c.code-2.ensures) c.if-sent-reply.false (sym c.in-Some.ensures.is))

pub returns-in-Some-word_difference-clause-is : goal.returns-in-Some-word_difference-clause-is
returns-in-Some-word_difference-clause-is c =
    let same = sym c.code.ensures ∙ c.if-code.false ∙ c.code-2.ensures in
    sym (length_words c.args.sent.now c.args.reply.now same c.if-sent-reply.false (sym c.in_default.ensures.is)
    ∙ rw (← c.without_circulating-sent_word.ensures, ← c.without_circulating-reply_word.ensures) (ap (ahead 6) (sym c.in-Some-word_difference.ensures.is)))

pub returns-in-None-clause-is : goal.returns-in-None-clause-is
returns-in-None-clause-is c =
    let same = sym c.code.ensures ∙ c.if-code.false ∙ c.code-2.ensures in
    sym (length_words c.args.sent.now c.args.reply.now same c.if-sent-reply.false (sym c.in_default.ensures.is)
    ∙ rw (← c.without_circulating-sent_word.ensures, ← c.without_circulating-reply_word.ensures) (ap (ahead 6) (sym c.in-None.ensures.is)))
