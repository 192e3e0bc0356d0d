use Rattle.dc_top.specs.Answers.{RefusesFile}
use Rattle.dc_top.proofs.Serving.{file_handed, idle_refused}
use Rattle.dc_top.proofs.files.migrate.Goals as goal

pub returns-in_err-segment-clause-refused : goal.returns-in_err-segment-clause-refused
returns-in_err-segment-clause-refused c =
    idle_refused c.from_residual.result (RefusesFile c.args.bytes.now)
    (file_handed c.args.bytes.now c.from_residual.result _ c.in_err-segment.ensures.refused c.from_residual.ensures.1)
