use Rattle.std.proofs.Common.{length, arith, ap, subst}
use Rattle.cable_tree.specs.Segment.{IsSegment}
use Rattle.cable_tree.proofs.Bounds.{inside_small}
use Rattle.cable_tree.proofs.tree.Tree.port_time.Goals as goal

pub overflow_add-result : goal.overflow_add-result
overflow_add-result c =
    let same = ap length c.self.view_is in
    let within = c.in_ok-kid.ensures.within in
    let small = inside_small c.args.self.now (subst (λ rs. IsSegment rs) c.self.view_is c.self.invariant.segment) c.in_ok-kid.kid (omega arith) in
    omega arith

pub overflow_add-result-2 : goal.overflow_add-result-2
overflow_add-result-2 c =
    let same = ap length c.self.view_is in
    let within = c.in_ok-kid.ensures.within in
    let small = inside_small c.args.self.now (subst (λ rs. IsSegment rs) c.self.view_is c.self.invariant.segment) c.in_ok-kid.kid (omega arith) in
    omega arith
