use Rattle.std.proofs.Common.{get_or, arith, ap, sym, ◌∙◌}
use Rattle.cable_tree.specs.PathSums.{arrive, arrive_step}
use Rattle.cable_tree.proofs.Bounds.{inside_small}
use Rattle.cable_tree.proofs.Children.{child_hangs}
use Rattle.cable_tree.proofs.Levels.{arrive_is}
use Rattle.cable_tree.proofs.times.arrival_of.Goals as goal

pub overflow_add-start : goal.overflow_add-start
overflow_add-start c =
    let rows = c.args.wiring.now in
    let a = c.in-Some.above in
    let parent = c.requires.segment.tree.parents c.args.row a c.requires.row (sym c.in-Some.ensures) in
    let known = ap (λ i. get_or c.args.arrivals.now i 0) c.from.ensures ∙ c.requires.parent a (sym c.in-Some.ensures) in
    let small = inside_small rows c.requires.segment a.row parent in
    omega arith

pub earlier_at-requires-clause-children : goal.earlier_at-requires-clause-children
earlier_at-requires-clause-children c = λ p k e. c.requires.spans.each k (child_hangs c.args.wiring.now c.in-Some.above.row p k e).0

pub overflow_add-result : goal.overflow_add-result
overflow_add-result c =
    let rows = c.args.wiring.now in
    let a = c.in-Some.above in
    let parent = c.requires.segment.tree.parents c.args.row a c.requires.row (sym c.in-Some.ensures) in
    let known = ap (λ i. get_or c.args.arrivals.now i 0) c.from.ensures ∙ c.requires.parent a (sym c.in-Some.ensures) in
    let small = inside_small rows c.requires.segment a.row parent in
    omega arith

pub overflow_add-result-in-Some : goal.overflow_add-result-in-Some
overflow_add-result-in-Some c =
    let rows = c.args.wiring.now in
    let a = c.in-Some.above in
    let parent = c.requires.segment.tree.parents c.args.row a c.requires.row (sym c.in-Some.ensures) in
    let known = ap (λ i. get_or c.args.arrivals.now i 0) c.from.ensures ∙ c.requires.parent a (sym c.in-Some.ensures) in
    let small = inside_small rows c.requires.segment a.row parent in
    omega arith

pub returns-in-None : goal.returns-in-None
returns-in-None c =
    let rows = c.args.wiring.now in
    let is = arrive_is rows c.requires.segment.tree c.args.row c.requires.row in
    let root = ap (arrive_step rows (arrive rows) c.args.row) (sym c.in-None.ensures) in
    omega arith

pub returns-in-Some : goal.returns-in-Some
returns-in-Some c =
    let rows = c.args.wiring.now in
    let a = c.in-Some.above in
    let is = arrive_is rows c.requires.segment.tree c.args.row c.requires.row in
    let child = ap (arrive_step rows (arrive rows) c.args.row) (sym c.in-Some.ensures) in
    let known = ap (λ i. get_or c.args.arrivals.now i 0) c.from.ensures ∙ c.requires.parent a (sym c.in-Some.ensures) in
    omega arith
