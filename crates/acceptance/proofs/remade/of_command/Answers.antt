use Rattle.acceptance.proofs.remade.of_command.Goals as goal

pub of_run-requires : goal.of_run-requires
of_run-requires c s text = c.requires c.in-Run.edges s c.in-Run.is text
