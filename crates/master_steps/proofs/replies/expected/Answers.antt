use Rattle.std.proofs.Common.{◌∙◌}
use Rattle.master_steps.specs.ConfigRange.{value_of}
use Rattle.master_steps.specs.Known.{words_of}
use Rattle.master_steps.proofs.Shapes.{identify_places, identify_sizes}
use Rattle.master_steps.proofs.replies.expected.Goals as goal

pub identified_from-requires-clause-there : goal.identified_from-requires-clause-there
identified_from-requires-clause-there c =
    (identify_places c.args.reply.now ((rw c.in-Identify.is at c.requires.alike) ∙ identify_sizes (value_of c.args.config.now) (words_of c.args.learned.now) c.in-Identify.field-0)).0

pub identified_from-requires-clause-features : goal.identified_from-requires-clause-features
identified_from-requires-clause-features c =
    (identify_places c.args.reply.now ((rw c.in-Identify.is at c.requires.alike) ∙ identify_sizes (value_of c.args.config.now) (words_of c.args.learned.now) c.in-Identify.field-0)).1

pub identified_from-requires-clause-status : goal.identified_from-requires-clause-status
identified_from-requires-clause-status c =
    (identify_places c.args.reply.now ((rw c.in-Identify.is at c.requires.alike) ∙ identify_sizes (value_of c.args.config.now) (words_of c.args.learned.now) c.in-Identify.field-0)).2
