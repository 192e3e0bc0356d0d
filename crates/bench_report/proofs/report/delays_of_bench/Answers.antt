use Rattle.std.proofs.Common.{◌∙◌, subst, sym}
use Rattle.edge_report.specs.Delays.{AreDelays}
use Rattle.bench_report.proofs.Measured.{commissioned_delays}
use Rattle.bench_report.proofs.report.delays_of_bench.Goals as goal

pub measured_delays-requires : goal.measured_delays-requires
measured_delays-requires c = commissioned_delays c.args.segment.now c.args.bench.now c.requires.legal c.requires.run

pub delay_table-requires : goal.delay_table-requires
delay_table-requires c =
    let are = commissioned_delays c.args.segment.now c.args.bench.now c.requires.legal c.requires.run in
    subst (AreDelays c.args.segment.now) (sym (c.deref.ensures.value ∙ c.in_ok-delays.ensures)) are
