use Rattle.std.proofs.Common.{◌≡◌, ℕ, ◌<◌, ◌-◌, List, length, get_or, arith, rules, ap, sym, ◌∙◌}
use Rattle.cable_tree.specs.FrameOrder.{order}
use Rattle.cable_tree.specs.PathSums.{span}
use Rattle.cable_tree.proofs.Tables.{visited, last_child, last_more, last_all}
use Rattle.cable_tree.proofs.times.spans.Goals as goal

row_is : (xs ys : List ℕ) (k : ℕ) → xs ≡ ys → get_or xs (length xs - 1 - k) 0 ≡ get_or ys (length ys - 1 - k) 0
row_is xs ys k e = ap (λ (zs : List ℕ). get_or zs (length zs - 1 - k) 0) e

pub span_of-requires-clause-row : goal.span_of-requires-clause-row
span_of-requires-clause-row c =
    let rows = c.args.wiring.now in
    let whole = ap length c.requires in
    let row = row_is c.args.order.now (order rows) c.loop-done.done c.requires in
    let within = visited rows c.len.ensures.segment (length (order rows) - 1 - c.loop-done.done) (omega arith) in
    omega arith

pub span_of-requires-clause-children : goal.span_of-requires-clause-children
span_of-requires-clause-children c =
    let rows = c.args.wiring.now in
    let whole = ap length c.requires in
    let row = row_is c.args.order.now (order rows) c.loop-done.done c.requires in
    λ p k e. ap (λ (xs : List ℕ). get_or xs k 0) c.deref.ensures.value
    ∙ last_child rows c.len.ensures.segment (span rows) c.loop-done.done c.loop-done.spans.items
    (get_or c.args.order.now (length c.args.order.now - 1 - c.loop-done.done) 0) (omega arith) row c.loop-done.invariant p k e

pub index_mut-requires : goal.index_mut-requires
index_mut-requires c =
    let rows = c.args.wiring.now in
    let whole = ap length c.requires in
    let row = row_is c.args.order.now (order rows) c.loop-done.done c.requires in
    let within = visited rows c.len.ensures.segment (length (order rows) - 1 - c.loop-done.done) (omega arith) in
    let table = c.loop-done.invariant.whole in
    let below : c.from.result < length rows = omega arith in
    search rules

pub loop-done-preserved : goal.loop-done-preserved
loop-done-preserved c =
    let rows = c.args.wiring.now in
    let whole = ap length c.requires in
    let row = c.from.ensures ∙ row_is c.args.order.now (order rows) c.loop-done.done c.requires in
    last_more rows c.len.ensures.segment (span rows) c.loop-done.done c.loop-done.spans.items c.from.result c.span_of.result (omega arith) row
    (c.span_of.ensures ∙ ap (span rows) (sym c.from.ensures)) c.loop-done.invariant

pub returns : goal.returns
returns c =
    let whole = ap length c.requires in
    last_all c.args.wiring.now c.len.ensures.segment (span c.args.wiring.now) c.loop-done.done c.loop-done.spans.items (omega arith) c.loop-done.invariant
