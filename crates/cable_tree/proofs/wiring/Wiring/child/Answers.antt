use Rattle.std.proofs.Common.{◌≡◌, arith}
use Rattle.std.proofs.lemmas.Grind.{common_steps}
use Rattle.cable_tree.specs.FrameOrder.{child}
use Rattle.cable_tree.proofs.Children.{child_within}
use Rattle.cable_tree.proofs.wiring.Wiring.child.Goals as goal

pub returns-clause-within : goal.returns-clause-within
returns-clause-within c =
    let is : c.at.result ≡ child c.args.self.now c.args.row c.args.port = grind (arith, common_steps) in
    child_within c.args.self.now c.args.row c.args.port c.at.result is
