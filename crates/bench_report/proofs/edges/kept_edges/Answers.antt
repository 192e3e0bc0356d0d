use Rattle.std.proofs.Common.{◌≡◌, ◌∙◌, ◌<◌, length, arith}
use Rattle.edge_report.proofs.Exported.{slaves_many as rows_many}
use Rattle.segment_bench.proofs.Exported.{run_keeps}
use Rattle.bench_report.proofs.EdgesOfRun.{are_edges}
use Rattle.bench_report.proofs.KeptEdges.{slaves_many}
use Rattle.bench_report.proofs.Own.{run_own}
use Rattle.bench_report.proofs.Pieces.{all_told, slave_more}
use Rattle.bench_report.proofs.edges.kept_edges.Goals as goal

pub edges-requires : goal.edges-requires
edges-requires c =
    let s = c.args.segment.now in
    let w = c.args.bench.now.wire in
    let n = rows_many s c.tree.result.now c.tree.ensures.is in
    let many = slaves_many s w c.tree.ensures.legal (run_keeps s c.args.bench.now c.tree.ensures.legal c.requires) in
    let low : c.loop-position.position < length w.slaves = omega (arith, n, many, c.len-slaves.ensures.is, c.loop-position-test.true) in
    rw c.wire.ensures low

pub returns-in_err-push_own-clause-are : goal.returns-in_err-push_own-clause-are
returns-in_err-push_own-clause-are c =
    let s = c.args.segment.now in
    are_edges s c.args.bench.now.wire (run_keeps s c.args.bench.now c.tree.ensures.legal c.requires) (run_own s c.args.bench.now c.tree.ensures.legal c.requires)

pub loop-position-preserved : goal.loop-position-preserved
loop-position-preserved c =
    let s = c.args.segment.now in
    let w = c.args.bench.now.wire in
    let n = rows_many s c.tree.result.now c.tree.ensures.is in
    let many = slaves_many s w c.tree.ensures.legal (run_keeps s c.args.bench.now c.tree.ensures.legal c.requires) in
    let low : c.loop-position.position < length w.slaves = omega (arith, n, many, c.len-slaves.ensures.is, c.loop-position-test.true) in
    slave_more w c.wire.result.now c.loop-position.position c.edges.result.now c.loop-position.edges.items c.push_own.new.list.items c.wire.ensures (rw c.wire.ensures low) c.edges.ensures
    c.loop-position.invariant c.in_ok-push_own.ensures

pub returns-clause-told : goal.returns-clause-told
returns-clause-told c =
    let s = c.args.segment.now in
    let n = rows_many s c.tree.result.now c.tree.ensures.is in
    let all : c.loop-position.position ≡ length s.rows = omega (arith, n, c.len-slaves.ensures.is) in
    c.loop-position.invariant ∙ all_told s c.args.bench.now.wire c.loop-position.position all

pub returns-clause-are : goal.returns-clause-are
returns-clause-are c =
    let s = c.args.segment.now in
    are_edges s c.args.bench.now.wire (run_keeps s c.args.bench.now c.tree.ensures.legal c.requires) (run_own s c.args.bench.now c.tree.ensures.legal c.requires)
