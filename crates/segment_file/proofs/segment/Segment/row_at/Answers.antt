use Rattle.std.proofs.Common.{◌≡◌, ◌∙◌, ◌<◌, length, slice_index, sym, subst, ap, arith}
use Rattle.cable_tree.specs.FrameOrder.{order}
use Rattle.segment_file.specs.InsideSegment.{value_of}
use Rattle.segment_file.specs.Segment.{row_at, tree_rows}
use Rattle.segment_file.proofs.LegalLemmas.{order_many, row_within}
use Rattle.segment_file.proofs.segment.Segment.row_at.Goals as goal

pub bounds-order-from : goal.bounds-order-from
bounds-order-from c =
    let s = value_of c.self.inside in
    let low : c.args.position < length s.rows = subst (λ v. c.args.position < length v.rows) (sym c.self.view_is) c.requires in
    let same : c.order.result.now ≡ order (tree_rows s.rows) = c.order.ensures.is ∙ ap order c.self.invariant.tree in
    subst (λ rows. c.from.result < length rows) (sym same) (omega (arith, low, c.from.ensures, order_many s c.self.invariant.legal))

pub returns-clause-row : goal.returns-clause-row
returns-clause-row c =
    let s = value_of c.self.inside in
    let low : c.args.position < length s.rows = subst (λ v. c.args.position < length v.rows) (sym c.self.view_is) c.requires in
    let same : c.order.result.now ≡ order (tree_rows s.rows) = c.order.ensures.is ∙ ap order c.self.invariant.tree in
    let row = row_within s c.self.invariant.legal c.args.position low in
    let at_place = subst (λ i. row_at s i < length s.rows) (sym c.from.ensures) row in
    subst (λ v. slice_index c.order.result.now c.from.result < length v.rows) c.self.view_is (subst (λ rows. slice_index rows c.from.result < length s.rows) (sym same) at_place)
