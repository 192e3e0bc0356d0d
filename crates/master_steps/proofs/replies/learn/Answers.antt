use Rattle.std.proofs.Common.{◌∙◌, Bool, ap, sym, ◌∷◌, []}
use Rattle.master_steps.specs.Known.{words_of}
use Rattle.master_steps.proofs.Shapes.{identify_places, identify_sizes, times_sizes}
use Rattle.master_steps.proofs.replies.learn.Goals as goal
use Rattle.master_script.specs.Frames.{width}

pub identified_from-requires-clause-there : goal.identified_from-requires-clause-there
identified_from-requires-clause-there c =
    (identify_places c.args.reply.now ((rw c.in-Identify.is at c.requires.alike.1) ∙ identify_sizes c.requires.alike.0 (words_of c.args.learned.now) c.in-Identify.field-0)).0

pub identified_from-requires-clause-features : goal.identified_from-requires-clause-features
identified_from-requires-clause-features c =
    (identify_places c.args.reply.now ((rw c.in-Identify.is at c.requires.alike.1) ∙ identify_sizes c.requires.alike.0 (words_of c.args.learned.now) c.in-Identify.field-0)).1

pub identified_from-requires-clause-status : goal.identified_from-requires-clause-status
identified_from-requires-clause-status c =
    (identify_places c.args.reply.now ((rw c.in-Identify.is at c.requires.alike.1) ∙ identify_sizes c.requires.alike.0 (words_of c.args.learned.now) c.in-Identify.field-0)).2

pub latch_in-latch-requires : goal.latch_in-latch-requires
latch_in-latch-requires c =
    let w = words_of c.args.learned.now in
    (rw c.in-Times.is at c.requires.alike.1) ∙ times_sizes c.requires.alike.0 w c.in-Times.position
    ∙ ap (λ (wide : Bool). 16 ∷ width wide ∷ []) (sym c.is_wide.ensures)
