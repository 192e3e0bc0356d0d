use Rattle.dc_top.specs.Answers.{RefusesLines}
use Rattle.dc_top.proofs.Serving.{idle_refused, lines_handed}
use Rattle.dc_top.proofs.files.show.Goals as goal

pub returns-in_err-show-clause-refused : goal.returns-in_err-show-clause-refused
returns-in_err-show-clause-refused c =
    idle_refused c.from_residual.result (RefusesLines c.args.bytes.now)
    (lines_handed c.args.bytes.now c.from_residual.result _ c.in_err-show.ensures.refused c.from_residual.ensures.1)
