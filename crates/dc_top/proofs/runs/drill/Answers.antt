use Rattle.std.proofs.Common.{◌≡◌, subst}
use Rattle.std.proofs.lemmas.Result.{IfErr-weaker, IfOk-weaker}
use Rattle.segment_draw.specs.Generated.{generated}
use Rattle.segment_file.specs.Segment.{SegmentValue}
use Rattle.dc_top.specs.Answers.{RefusesRun}
use Rattle.dc_top.specs.Runs.{IsReport}
use Rattle.dc_top.specs.declared.outcome.Outcome.TheVariants.{NoMemory}
use Rattle.dc_top.specs.declared.report.Report.TheVariants.{Drill}
use Rattle.dc_top.proofs.Serving.{drawn_whole}
use Rattle.dc_top.proofs.runs.drill.Goals as goal

pub returns-clause-written : goal.returns-clause-written
returns-clause-written c =
    IfOk-weaker c.drive.result (λ text. IsReport Drill c.in_ok-segment.segment text.items c.drive.new.bench)
    (λ text. IsReport Drill (generated c.args.slaves c.args.seed) text.items c.drive.new.bench)
    (λ text p. subst (λ (s : SegmentValue). IsReport Drill s text.items c.drive.new.bench) c.in_ok-segment.ensures.is p) c.drive.ensures.written

pub returns-clause-refused : goal.returns-clause-refused
returns-clause-refused c =
    IfErr-weaker c.drive.result (λ o. RefusesRun Drill c.in_ok-segment.segment o c.drive.new.bench) (λ o. o ≡ NoMemory)
    (λ o p. drawn_whole c.args.slaves c.args.seed o c.drive.new.bench (subst (λ (s : SegmentValue). RefusesRun Drill s o c.drive.new.bench) c.in_ok-segment.ensures.is p))
    c.drive.ensures.refused
