use Rattle.std.proofs.Common.{get_or, arith, ap, sym, ◌∙◌}
use Rattle.cable_tree.specs.PathSums.{span, detour_to}
use Rattle.cable_tree.proofs.Bounds.{span_small}
use Rattle.cable_tree.proofs.times.detour_at.Goals as goal

pub overflow_add-result : goal.overflow_add-result
overflow_add-result c =
    let rows = c.args.wiring.now in
    let known = ap (λ i. get_or c.args.spans.now i 0) c.from.ensures ∙ c.requires.children c.args.port c.in-Some.kid (sym c.in-Some.ensures.is) in
    let small = span_small rows c.requires.segment c.in-Some.kid c.in-Some.ensures.within in
    omega arith

pub overflow_add-result-in-Some : goal.overflow_add-result-in-Some
overflow_add-result-in-Some c =
    let rows = c.args.wiring.now in
    let known = ap (λ i. get_or c.args.spans.now i 0) c.from.ensures ∙ c.requires.children c.args.port c.in-Some.kid (sym c.in-Some.ensures.is) in
    let small = span_small rows c.requires.segment c.in-Some.kid c.in-Some.ensures.within in
    omega arith

pub returns-in-Some-clause-most : goal.returns-in-Some-clause-most
returns-in-Some-clause-most c =
    let rows = c.args.wiring.now in
    let known = ap (λ i. get_or c.args.spans.now i 0) c.from.ensures ∙ c.requires.children c.args.port c.in-Some.kid (sym c.in-Some.ensures.is) in
    let small = span_small rows c.requires.segment c.in-Some.kid c.in-Some.ensures.within in
    omega arith

pub returns-in-Some-clause-is : goal.returns-in-Some-clause-is
returns-in-Some-clause-is c =
    let rows = c.args.wiring.now in
    let known = ap (λ i. get_or c.args.spans.now i 0) c.from.ensures ∙ c.requires.children c.args.port c.in-Some.kid (sym c.in-Some.ensures.is) in
    let child = ap (detour_to rows (span rows) c.args.row) c.in-Some.ensures.is in
    omega arith
