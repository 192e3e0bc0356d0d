use Rattle.std.proofs.Common.{◌≡◌, ◌∙◌, ap, arith, is_some, map, take_all}
use Rattle.cable_tree.specs.FrameOrder.{order}
use Rattle.edge_report.proofs.Exported.{slaves_many}
use Rattle.edge_report.specs.Slaves.{slave_at}
use Rattle.segment_file.proofs.Exported.{order_many}
use Rattle.segment_file.specs.Segment.{RowValue, clock_at, is_clock, tree_rows}
use Rattle.segment_cases.proofs.Making.{delay_more, some_if}
use Rattle.segment_cases.proofs.reports.delays.delays_of.Goals as goal

pub loop-position-preserved : goal.loop-position-preserved
loop-position-preserved c =
    let s = c.args.segment.now in
    let many = slaves_many s c.tree.result.now c.tree.ensures.is in
    let flag : is_some c.then_some.result ≡ is_clock (slave_at s c.loop-position.position) =
    some_if c.has_clock-is_clock.result _ c.then_some.result c.then_some.ensures ∙ c.has_clock-is_clock.ensures ∙ ap (λ (r : RowValue). is_clock r) c.slave.ensures in
    ap (map is_some) c.in_ok-push.ensures.items
    ∙ delay_more s c.loop-position.position c.loop-position.delays.items c.then_some.result c.tree.ensures.legal (omega (arith, many, c.len-slaves.ensures.is)) flag c.loop-position.invariant

pub returns : goal.returns
returns c =
    let s = c.args.segment.now in
    let many = slaves_many s c.tree.result.now c.tree.ensures.is in
    c.loop-position.invariant
    ∙ ap (map (clock_at s.rows)) (take_all c.loop-position.position (order (tree_rows s.rows)) (omega (arith, many, c.len-slaves.ensures.is, order_many s c.tree.ensures.legal)))
