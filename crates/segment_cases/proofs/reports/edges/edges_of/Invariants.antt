use Rattle.segment_cases.specs.Runs.{IsRunBefore}
use Rattle.segment_cases.proofs.reports.edges.edges_of.Given as goal

abbrev pub invariant-loop-position : goal.invariant-loop-position
invariant-loop-position l = IsRunBefore l.segment l.position l.edges.items
