use Rattle.std.proofs.Common.{arith}
use Rattle.std.proofs.lemmas.Grind.{common_steps}
use Rattle.segment_bounds.specs.Window.{greatest}
use Rattle.edge_report.proofs.windows.greatest.Goals as goal

pub loop-place-preserved : goal.loop-place-preserved
unfolding greatest
loop-place-preserved c = grind (arith, common_steps)

pub returns : goal.returns
unfolding greatest
returns c = grind (arith, common_steps)
