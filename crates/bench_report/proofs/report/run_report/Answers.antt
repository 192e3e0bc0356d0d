use Rattle.std.proofs.lemmas.Result.{IfOk-weaker}
use Rattle.bench_report.proofs.Measured.{run_delays}
use Rattle.bench_report.proofs.Pieces.{with_rows, without_rows}
use Rattle.bench_report.proofs.report.run_report.Goals as goal

pub summary-requires-clause-delays : goal.summary-requires-clause-delays
summary-requires-clause-delays c = run_delays c.args.segment.now c.args.bench.now c.kept_edges.ensures.legal c.requires

pub returns-then-with_rows : goal.returns-then-with_rows
returns-then-with_rows c =
    IfOk-weaker c.edges_csv_behind.result _ _
    (λ all is. with_rows c.args.segment.now c.args.bench.now c.args.with_rows c.in_ok-edges.edges.items c.in_ok-text.text.items all.items c.if-with_rows.true c.in_ok-edges.ensures.told
    c.in_ok-text.ensures is)
    c.edges_csv_behind.ensures

pub returns-else-with_rows : goal.returns-else-with_rows
returns-else-with_rows c =
    without_rows c.args.segment.now c.args.bench.now c.args.with_rows c.in_ok-text.text.items c.if-with_rows.false c.in_ok-text.ensures
