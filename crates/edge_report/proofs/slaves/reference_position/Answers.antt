use Rattle.std.proofs.Common.{◌<◌, ◌∙◌, ap, length, slice_index, subst, sym}
use Rattle.cable_tree.specs.FrameOrder.{order}
use Rattle.edge_report.proofs.Places.{reference_at}
use Rattle.edge_report.proofs.slaves.reference_position.Goals as goal

pub returns : goal.returns
returns c =
    let e = c.tree.ensures.is in
    reference_at c.args.segment.now c.position.result c.reference.result c.tree.ensures.legal c.reference.ensures.is
    (subst (λ rows. c.position.result < length (order rows)) e c.position.ensures.within)
    (ap (λ rows. slice_index (order rows) c.position.result) (sym e) ∙ c.position.ensures.is)
