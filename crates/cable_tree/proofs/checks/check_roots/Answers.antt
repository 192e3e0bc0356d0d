use Rattle.std.proofs.Common.{sym, ◌∙◌, Some, None}
use Rattle.cable_tree.proofs.Checked.{above_here, is_none, is_one, roots_skip, roots_found, roots_twice, roots_start, roots_end}
use Rattle.cable_tree.proofs.Levels.{none_some}
use Rattle.cable_tree.proofs.checks.check_roots.Goals as goal

pub loop-row-init : goal.loop-row-init
loop-row-init c = roots_start c.args.rows.now

pub loop-row-preserved-then-is_some : goal.loop-row-preserved-then-is_some
loop-row-preserved-then-is_some c =
    let one = is_one c.above.result c.if-is_some.ensures in
    let at = above_here c.args.rows.now c.loop-row.row c.index-rows-row.result (Some one.0) c.loop-row-test.true c.index-rows-row.is (sym one.1 ∙ c.above.ensures.above) in
    roots_skip c.args.rows.now c.loop-row.row c.loop-row.root (λ root. none_some one.0 (sym root ∙ at)) c.loop-row.invariant

pub returns-then-is_some-2-clause-err : goal.returns-then-is_some-2-clause-err
returns-then-is_some-2-clause-err c =
    let none = is_none c.above.result c.if-is_some.ensures in
    let at = above_here c.args.rows.now c.loop-row.row c.index-rows-row.result None c.loop-row-test.true c.index-rows-row.is (sym none ∙ c.above.ensures.above) in
    let first = is_one c.loop-row.root c.if-is_some-2.ensures in
    (c.requires.parents, roots_twice c.args.rows.now c.loop-row.row c.loop-row.root first.0 c.loop-row-test.true first.1 at c.loop-row.invariant)

pub loop-row-preserved : goal.loop-row-preserved
loop-row-preserved c =
    let none = is_none c.above.result c.if-is_some.ensures in
    let at = above_here c.args.rows.now c.loop-row.row c.index-rows-row.result None c.loop-row-test.true c.index-rows-row.is (sym none ∙ c.above.ensures.above) in
    let first = is_none c.loop-row.root c.if-is_some-2.ensures in
    roots_found c.args.rows.now c.loop-row.row c.loop-row.root first at c.loop-row.invariant

pub returns-clause-ok : goal.returns-clause-ok
returns-clause-ok c = (roots_end c.args.rows.now c.loop-row.row c.loop-row.root c.loop-row-test.false c.loop-row.auto.row-end c.loop-row.invariant).one

pub returns-clause-root : goal.returns-clause-root
returns-clause-root c = (roots_end c.args.rows.now c.loop-row.row c.loop-row.root c.loop-row-test.false c.loop-row.auto.row-end c.loop-row.invariant).first
