use Rattle.std.specs.Prelude.{option_map}
use Rattle.std.proofs.Common.{◌≡◌, ◌∙◌, ◌<◌, Some, length, ap, sym, subst, arith}
use Rattle.cable_tree.specs.Positions.{position_of}
use Rattle.std.proofs.lemmas.List.{length-map}
use Rattle.cable_tree.specs.FrameOrder.{order}
use Rattle.segment_file.specs.InsideSegment.{value_of}
use Rattle.segment_file.specs.Segment.{tree_row, tree_rows, reference_row}
use Rattle.segment_file.proofs.LegalLemmas.{order_many, reference_within}
use Rattle.segment_file.proofs.segment.Segment.reference_position.Goals as goal

pub position-requires : goal.position-requires
position-requires c =
    let s = value_of c.self.inside in
    subst (λ t. c.self.inside.reference < length t) (sym c.self.invariant.tree) (omega (arith, reference_within s.rows c.self.inside.reference c.self.invariant.reference, length-map s.rows tree_row))

pub returns-clause-within : goal.returns-clause-within
returns-clause-within c =
    let s = value_of c.self.inside in
    let place = subst (λ t. c.position.result < length (order t)) c.self.invariant.tree c.position.ensures.within in
    subst (λ v. c.position.result < length v.rows) c.self.view_is (omega (arith, place, order_many s c.self.invariant.legal))

pub returns-clause-position : goal.returns-clause-position
returns-clause-position c =
    let s = value_of c.self.inside in
    let here : option_map (position_of (tree_rows s.rows)) (reference_row s.rows) ≡ Some c.position.result =
    ap (option_map (position_of (tree_rows s.rows))) c.self.invariant.reference
    ∙ ap Some (sym (c.position.ensures.position ∙ ap (λ t. position_of t c.self.inside.reference) c.self.invariant.tree)) in
    subst (λ v. option_map (position_of (tree_rows v.rows)) (reference_row v.rows) ≡ Some c.position.result) c.self.view_is here
