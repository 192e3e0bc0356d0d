use Rattle.std.proofs.Common.{◌∙◌, ◌<◌, ◌++◌, None, length, sym, arith, ap₂, rules, [], ◌∷◌}
use Rattle.std.proofs.lemmas.List.{take_all, take_more}
use Rattle.edge_report.proofs.Exported.{delays_many, slaves_many as rows_many}
use Rattle.bench_report.proofs.delays.measured_delays.Goals as goal

pub loop-position-preserved : goal.loop-position-preserved
loop-position-preserved c =
    let s = c.args.segment.now in
    let ds = c.args.bench.now.master.delays in
    let n = rows_many s c.tree.result.now c.tree.ensures.is in
    let many = delays_many s ds c.tree.ensures.legal c.requires in
    let low : c.loop-position.position < length ds = omega (arith, n, many, c.len-slaves.ensures.is, c.loop-position-test.true) in
    c.in_ok-push.ensures.items ∙ ap₂ (λ xs x. xs ++ x ∷ []) c.loop-position.invariant (search rules) ∙ sym (take_more ds c.loop-position.position None low)

pub returns : goal.returns
returns c =
    let s = c.args.segment.now in
    let ds = c.args.bench.now.master.delays in
    let n = rows_many s c.tree.result.now c.tree.ensures.is in
    let many = delays_many s ds c.tree.ensures.legal c.requires in
    c.loop-position.invariant ∙ take_all c.loop-position.position ds (omega (arith, n, many, c.len-slaves.ensures.is, c.loop-position-test.false))
