use Rattle.acceptance.proofs.remade.of_run.Goals as goal

pub report_of-requires : goal.report_of-requires
report_of-requires c = c.requires c.in-Ok.segment c.in-Ok.ensures.read
