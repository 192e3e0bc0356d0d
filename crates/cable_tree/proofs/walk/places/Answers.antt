use Rattle.std.proofs.Common.{◌<◌, List, length, get_or, arith, rules, ap, ◌∙◌}
use Rattle.cable_tree.proofs.Members.{order_whole}
use Rattle.cable_tree.proofs.Tables.{visited, places_more, places_all}
use Rattle.cable_tree.proofs.walk.places.Goals as goal

pub overflow_cast-place : goal.overflow_cast-place
overflow_cast-place c =
    let rows = c.args.wiring.now in
    let segment = c.len.ensures.segment in
    let whole = ap length c.requires ∙ order_whole rows segment.tree segment.slaves in
    let few = segment.few in
    omega arith

pub index_mut-requires : goal.index_mut-requires
index_mut-requires c =
    let rows = c.args.wiring.now in
    let is = ap length c.requires in
    let row = ap (λ (xs : List _). get_or xs c.loop-place.place 0) c.requires in
    let within = visited rows c.len.ensures.segment c.loop-place.place (omega arith) in
    let whole = c.loop-place.invariant.whole in
    let below : c.from.result < length rows = omega arith in
    search rules

pub loop-place-preserved : goal.loop-place-preserved
loop-place-preserved c =
    let rows = c.args.wiring.now in
    let is = ap length c.requires in
    let row = c.from.ensures ∙ ap (λ (xs : List _). get_or xs c.loop-place.place 0) c.requires in
    places_more rows c.len.ensures.segment c.loop-place.place c.loop-place.places.items c.from.result (omega arith) row c.loop-place.invariant

pub returns : goal.returns
returns c =
    let rows = c.args.wiring.now in
    let is = ap length c.requires in
    places_all rows c.len.ensures.segment c.loop-place.place c.loop-place.places.items (omega arith) c.loop-place.invariant
