use Rattle.std.proofs.Common.{◌≡◌, ◌<◌, length, slice_index, get_or, arith, sym, ap, ◌∙◌}
use Rattle.std.proofs.lemmas.List.{get_or_default}
use Rattle.cable_tree.specs.Positions.{position_of}
use Rattle.cable_tree.proofs.Standing.{position_at}
use Rattle.cable_tree.proofs.tree.Tree.position.Goals as goal

pub returns-clause-position : goal.returns-clause-position
returns-clause-position c =
    let rows = c.self.inside.wiring in
    let segment = c.self.invariant.segment in
    let places = c.self.invariant.places in
    let row : c.args.row < length rows = omega (arith, c.requires, ap length c.self.view_is) in
    let is : c.index.result.now ≡ slice_index c.self.inside.places.items c.args.row =
    c.index.ensures ∙ ap (λ r. get_or c.self.inside.places.items r c.index.result.now) c.from.ensures
    ∙ get_or_default c.self.inside.places.items c.args.row c.index.result.now 0 (omega (arith, row, places.whole)) in
    let stands = position_at rows segment.tree segment.slaves (slice_index c.self.inside.places.items c.args.row) (places.within c.args.row row) in
    is ∙ sym stands ∙ ap (position_of rows) (places.each c.args.row row) ∙ ap (λ rs. position_of rs c.args.row) c.self.view_is
