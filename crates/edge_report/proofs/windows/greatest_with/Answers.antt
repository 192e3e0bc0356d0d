use Rattle.std.proofs.Common.{arith}
use Rattle.std.proofs.lemmas.Grind.{common_steps}
use Rattle.segment_bounds.specs.Window.{greatest_with}
use Rattle.edge_report.proofs.windows.greatest_with.Goals as goal

pub loop-other-preserved : goal.loop-other-preserved
unfolding greatest_with
loop-other-preserved c = grind (arith, common_steps)

pub returns : goal.returns
unfolding greatest_with
returns c = grind (arith, common_steps)
