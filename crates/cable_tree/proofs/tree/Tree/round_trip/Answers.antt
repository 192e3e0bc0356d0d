use Rattle.std.proofs.Common.{length, arith, ap, subst}
use Rattle.cable_tree.specs.Segment.{IsSegment}
use Rattle.cable_tree.proofs.Bounds.{span_small}
use Rattle.cable_tree.proofs.Children.{root_of}
use Rattle.cable_tree.proofs.tree.Tree.round_trip.Goals as goal

pub cable_fs-requires : goal.cable_fs-requires
cable_fs-requires c =
    let top = (root_of c.self.inside.wiring c.root-root.ensures.segment.tree).0 in
    let is = c.root-root.ensures.is in
    omega arith

pub span-requires : goal.span-requires
span-requires c =
    let top = (root_of c.self.inside.wiring c.root-root.ensures.segment.tree).0 in
    let is = c.root-root.ensures.is in
    let same = ap length c.self.view_is in
    omega arith

pub overflow_add-result : goal.overflow_add-result
overflow_add-result c =
    let top = (root_of c.self.inside.wiring c.root-root.ensures.segment.tree).0 in
    let is = c.root-root.ensures.is in
    let same = ap length c.self.view_is in
    let small = span_small c.args.self.now (subst (λ rs. IsSegment rs) c.self.view_is c.self.invariant.segment) c.root-root.result (omega arith) in
    omega arith
