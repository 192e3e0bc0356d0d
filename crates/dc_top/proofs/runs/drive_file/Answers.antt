use Rattle.std.proofs.Common.{inl, inr}
use Rattle.std.proofs.lemmas.Result.{IfErr-weaker, IfOk-weaker}
use Rattle.dc_top.specs.Answers.{OfFile, RefusesDriven, RefusesFile, RefusesRun}
use Rattle.dc_top.specs.Runs.{IsReport}
use Rattle.dc_top.proofs.Serving.{file_handed}
use Rattle.dc_top.proofs.runs.drive_file.Goals as goal

pub returns-in_err-segment-clause-refused : goal.returns-in_err-segment-clause-refused
returns-in_err-segment-clause-refused c =
    let bytes = c.args.bytes.now in
    IfErr-weaker c.from_residual.result (RefusesFile bytes) (λ o. RefusesDriven c.args.report bytes o c.args.bench.now) (λ o p. inl (p, c.requires))
    (file_handed bytes c.from_residual.result _ c.in_err-segment.ensures.refused c.from_residual.ensures.1)

pub returns-clause-written : goal.returns-clause-written
returns-clause-written c =
    let s = c.in_ok-segment.segment in
    let r = c.args.report in
    IfOk-weaker c.drive.result (λ text. IsReport r s text.items c.drive.new.bench) (λ text. OfFile c.args.bytes.now (λ t. IsReport r t text.items c.drive.new.bench))
    (λ text p. record { segment = s; legal = c.in_ok-segment.ensures.read; holds = p }) c.drive.ensures.written

pub returns-clause-refused : goal.returns-clause-refused
returns-clause-refused c =
    let s = c.in_ok-segment.segment in
    let r = c.args.report in
    IfErr-weaker c.drive.result (λ o. RefusesRun r s o c.drive.new.bench) (λ o. RefusesDriven r c.args.bytes.now o c.drive.new.bench)
    (λ o p. inr (record { segment = s; legal = c.in_ok-segment.ensures.read; holds = p })) c.drive.ensures.refused
