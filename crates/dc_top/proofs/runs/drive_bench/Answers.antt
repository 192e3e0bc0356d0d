use Rattle.std.proofs.Common.{ℕ, List, Err, sym, subst}
use Rattle.master_script.specs.declared.step.MasterError.{MasterError}
use Rattle.dc_top.specs.Runs.{HasMade, IsReportOf}
use Rattle.dc_top.proofs.Behind.{only_lost}
use Rattle.dc_top.proofs.Exported.{reported, told_lost}
use Rattle.dc_top.proofs.runs.drive_bench.Goals as goal

pub returns-in_ok-report_text-in-Ok-clause-written : goal.returns-in_ok-report_text-in-Ok-clause-written
returns-in_ok-report_text-in-Ok-clause-written c =
    let r = c.args.report in
    let s = c.args.segment.now in
    let b = c.make_run.new.bench in
    subst (λ (bs : List ℕ). IsReportOf r s bs b) (sym c.in_ok-report_text-in-Ok.ensures) (reported r s b c.requires.new.legal c.in-Ok.ensures)

pub step_of-requires : goal.step_of-requires
step_of-requires c = only_lost c.args.report c.args.segment.now c.make_run.new.bench c.in-Err.error c.requires.new.legal c.in-Err.ensures

pub returns-in-Err-clause-refused : goal.returns-in-Err-clause-refused
returns-in-Err-clause-refused c =
    let r = c.args.report in
    let s = c.args.segment.now in
    let b = c.make_run.new.bench in
    told_lost r s b c.step_of.result c.requires.new.legal (subst (λ (e : MasterError). HasMade r s b (Err e)) c.step_of.ensures c.in-Err.ensures)
