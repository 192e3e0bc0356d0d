use Rattle.std.proofs.Common.{◌≡◌, ◌∙◌, ◌++◌, ap, length, string_bytes, arith, rules}
use Rattle.std.specs.List.{flat_map, range_with_len}
use Rattle.edge_report.specs.SlaveLine.{line_among}
use Rattle.edge_report.proofs.Places.{delays_many, slaves_many}
use Rattle.edge_report.proofs.Texts.{line_more}
use Rattle.edge_report.proofs.slave_lines.push_slaves.Goals as goal

pub bounds-delays-from : goal.bounds-delays-from
bounds-delays-from c =
    let n = slaves_many c.args.segment.now c.tree.result.now c.tree.ensures.is in
    omega (arith, n, c.from.ensures, c.len-slaves.ensures.is, delays_many c.args.segment.now c.args.delays.now c.tree.ensures.legal c.requires)

pub loop-position-preserved : goal.loop-position-preserved
loop-position-preserved c = line_more (line_among c.args.segment.now c.args.delays.now) c.loop-position.position (string_bytes c.args.text.now) _ _ c.loop-position.invariant (search rules)

pub returns : goal.returns
returns c =
    let n = slaves_many c.args.segment.now c.tree.result.now c.tree.ensures.is in
    let all : c.loop-position.position ≡ length c.args.segment.now.rows = omega (arith, n, c.len-slaves.ensures.is) in
    c.loop-position.invariant ∙ ap (λ k. string_bytes c.args.text.now ++ flat_map (line_among c.args.segment.now c.args.delays.now) (range_with_len 0 k)) all
