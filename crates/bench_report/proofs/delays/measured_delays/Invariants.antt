use Rattle.std.proofs.Common.{◌≡◌, take}
use Rattle.bench_report.proofs.delays.measured_delays.Given as goal

abbrev pub invariant-loop-position : goal.invariant-loop-position
invariant-loop-position l = l.delays.items ≡ take l.position l.bench.master.delays
