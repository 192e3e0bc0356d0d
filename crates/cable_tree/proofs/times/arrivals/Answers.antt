use Rattle.std.proofs.Common.{◌≡◌, ℕ, ◌<◌, List, length, get_or, arith, rules, ap, sym, ◌∙◌}
use Rattle.cable_tree.specs.FrameOrder.{order}
use Rattle.cable_tree.specs.PathSums.{arrive}
use Rattle.cable_tree.proofs.Tables.{visited, first_parent, first_more, first_all}
use Rattle.cable_tree.proofs.times.arrivals.Goals as goal

row_is : (xs ys : List ℕ) (k : ℕ) → xs ≡ ys → get_or xs k 0 ≡ get_or ys k 0
row_is xs ys k e = ap (λ (zs : List ℕ). get_or zs k 0) e

pub arrival_of-requires-clause-row : goal.arrival_of-requires-clause-row
arrival_of-requires-clause-row c =
    let rows = c.args.wiring.now in
    let whole = ap length c.requires.order in
    let row = row_is c.args.order.now (order rows) c.loop-row.row-index c.requires.order in
    let within = visited rows c.len.ensures.segment c.loop-row.row-index (omega arith) in
    omega arith

pub arrival_of-requires-clause-parent : goal.arrival_of-requires-clause-parent
arrival_of-requires-clause-parent c =
    let rows = c.args.wiring.now in
    let whole = ap length c.requires.order in
    let row = row_is c.args.order.now (order rows) c.loop-row.row-index c.requires.order in
    λ a e. ap (λ (xs : List ℕ). get_or xs a.row 0) c.deref.ensures.value
    ∙ first_parent rows c.len.ensures.segment (arrive rows) c.loop-row.row-index c.loop-row.arrivals.items
    (get_or c.args.order.now c.loop-row.row-index 0) (omega arith) row c.loop-row.invariant a e

pub index_mut-requires : goal.index_mut-requires
index_mut-requires c =
    let rows = c.args.wiring.now in
    let whole = ap length c.requires.order in
    let row = row_is c.args.order.now (order rows) c.loop-row.row-index c.requires.order in
    let within = visited rows c.len.ensures.segment c.loop-row.row-index (omega arith) in
    let table = c.loop-row.invariant.whole in
    let below : c.from.result < length rows = omega arith in
    search rules

pub loop-row-preserved : goal.loop-row-preserved
loop-row-preserved c =
    let rows = c.args.wiring.now in
    let whole = ap length c.requires.order in
    let row = c.from.ensures ∙ row_is c.args.order.now (order rows) c.loop-row.row-index c.requires.order in
    first_more rows c.len.ensures.segment (arrive rows) c.loop-row.row-index c.loop-row.arrivals.items c.from.result c.arrival_of.result (omega arith) row
    (c.arrival_of.ensures ∙ ap (arrive rows) (sym c.from.ensures)) c.loop-row.invariant

pub returns : goal.returns
returns c =
    let whole = ap length c.requires.order in
    first_all c.args.wiring.now c.len.ensures.segment (arrive c.args.wiring.now) c.loop-row.row-index c.loop-row.arrivals.items (omega arith) c.loop-row.invariant
