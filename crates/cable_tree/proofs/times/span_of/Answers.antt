use Rattle.std.proofs.Common.{arith}
use Rattle.cable_tree.proofs.Levels.{span_is}
use Rattle.cable_tree.proofs.times.span_of.Goals as goal

pub returns : goal.returns
returns c = let is = span_is c.args.wiring.now c.requires.segment.tree c.args.row c.requires.row in omega arith
