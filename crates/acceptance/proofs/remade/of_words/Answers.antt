use Rattle.std.proofs.Common.{◌∙◌, Some, ap, sym}
use Rattle.dc_words.specs.declared.command.Command.{Command}
use Rattle.acceptance.proofs.remade.of_words.Goals as goal

pub of_command-requires : goal.of_command-requires
of_command-requires c edges s is text = c.requires edges s (sym c.in-Ok.ensures.is ∙ c.in-Some.is ∙ ap (λ (x : Command). Some x) is) text
