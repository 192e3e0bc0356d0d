use Rattle.segment_cases.proofs.Making.{none_at_first}
use Rattle.segment_cases.proofs.reports.edges.edges_of.Goals as goal

pub loop-position-init : goal.loop-position-init
loop-position-init c = none_at_first c.args.segment.now c.new-edges.result.items c.new-edges.ensures.items
