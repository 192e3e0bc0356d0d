use Rattle.std.proofs.Common.{◌≡◌, ◌+◌, ◌∙◌, sym}
use Rattle.std.specs.Prelude.{true, false}
use Rattle.segment_file.specs.Runs.{is_lost}
use Rattle.segment_file.proofs.RunLemmas.{run_broken, run_on, run_whole}
use Rattle.segment_file.proofs.drift_runs.is_run.Goals as goal

pub returns-then-not-lists : goal.returns-then-not-lists
returns-then-not-lists c =
    let kept : is_lost c.args.losses.now (c.args.number + c.loop-ahead.ahead) ≡ false = sym c.lists.ensures ∙ c.if-not-lists.true in
    sym (c.loop-ahead.invariant ∙ run_broken (is_lost c.args.losses.now) c.args.number c.args.count c.loop-ahead.ahead c.loop-ahead-test.true kept)

pub loop-ahead-preserved : goal.loop-ahead-preserved
loop-ahead-preserved c =
    let lost : is_lost c.args.losses.now (c.args.number + c.loop-ahead.ahead) ≡ true = sym c.lists.ensures ∙ c.if-not-lists.false in
    c.loop-ahead.invariant ∙ run_on (is_lost c.args.losses.now) c.args.number c.args.count c.loop-ahead.ahead c.loop-ahead-test.true lost

pub returns : goal.returns
returns c =
    sym (c.loop-ahead.invariant ∙ run_whole (is_lost c.args.losses.now) c.args.number c.args.count c.loop-ahead.ahead c.loop-ahead-test.false)
