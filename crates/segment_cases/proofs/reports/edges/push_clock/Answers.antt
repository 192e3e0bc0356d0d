use Rattle.segment_cases.proofs.Making.{begins, ends}
use Rattle.segment_cases.proofs.reports.edges.push_clock.Goals as goal

pub loop-index-init : goal.loop-index-init
loop-index-init c = begins c.args.segment.now c.args.position c.args.edges.now.items c.requires.run

pub returns : goal.returns
returns c = ends c.args.segment.now c.args.position c.loop-index.index c.loop-index.edges.items c.loop-index.invariant
