use Rattle.segment_cases.specs.Runs.{IsRunTo}
use Rattle.segment_cases.proofs.reports.edges.push_clock.Given as goal

abbrev pub invariant-loop-index : goal.invariant-loop-index
invariant-loop-index l = IsRunTo l.segment l.position l.index l.edges.items
