use Rattle.bench_report.proofs.Exported.{run_delays}
use Rattle.acceptance.proofs.remade.report_of.Goals as goal

pub summary-requires-clause-delays : goal.summary-requires-clause-delays
summary-requires-clause-delays c = run_delays c.args.segment.now c.args.bench.now c.kept_edges.ensures.legal c.requires
