use Rattle.std.proofs.Common.{length, arith, refl, sym, ◌∙◌, Some, None, ◌<◌, ◌≡◌, subst, ℕ, rules, ◌+◌, set}
use Rattle.cable_tree.specs.Refusals.{IsDoubled}
use Rattle.cable_tree.proofs.Checked.{above_here, is_none, is_one, parent_within, hung_none, hung_skip, hung_taken, hung_more, hung_all, AreHung, siblings_at, siblings_at_port}
use Rattle.cable_tree.proofs.checks.check_ports.Goals as goal

pub loop-row-init : goal.loop-row-init
loop-row-init c =
    hung_none c.args.rows.now (length c.args.rows.now) c.none.result c.in-Ok.kids.items refl c.none.ensures (c.in-Ok.ensures.items_if_clones_equal (λ y e. e))

pub loop-row-preserved-in_default-above : goal.loop-row-preserved-in_default-above
loop-row-preserved-in_default-above c =
    let at = above_here c.args.rows.now c.loop-row.row c.index-rows-row.result None c.loop-row-test.true c.index-rows-row.is (sym c.in_default-above.is ∙ c.above.ensures.above) in
    hung_skip c.args.rows.now c.loop-row.row c.loop-row.kids.items at c.loop-row.invariant

pub index-requires : goal.index-requires
index-requires c =
    let at = above_here c.args.rows.now c.loop-row.row c.index-rows-row.result (Some c.in-Some.above) c.loop-row-test.true c.index-rows-row.is (sym c.in-Some.is ∙ c.above.ensures.above) in
    let parent = parent_within c.args.rows.now c.loop-row.row c.in-Some.above c.requires.parents c.loop-row-test.true at in
    let whole = c.loop-row.invariant.whole in
    search rules

pub returns-then-is_some-clause-err : goal.returns-then-is_some-clause-err
returns-then-is_some-clause-err c =
    let at = above_here c.args.rows.now c.loop-row.row c.index-rows-row.result (Some c.in-Some.above) c.loop-row-test.true c.index-rows-row.is (sym c.in-Some.is ∙ c.above.ensures.above) in
    let parent = parent_within c.args.rows.now c.loop-row.row c.in-Some.above c.requires.parents c.loop-row-test.true at in
    let found = is_one c.at.result c.if-is_some.ensures in
    let value = c.index.ensures in
    let taken = siblings_at c.args.rows.now c.loop-row.row c.loop-row.kids.items c.in-Some.above c.from-parent.result c.index.result.now parent c.from-parent.ensures value c.loop-row.invariant in
    let here = hung_taken c.args.rows.now c.loop-row.row c.loop-row.kids.items c.in-Some.above found.0 parent at (taken ∙ sym c.at.ensures ∙ found.1) c.loop-row.invariant in
    (c.requires.parents, c.requires.roots, record { within = c.loop-row-test.true; here = here; least = c.loop-row.invariant.one })

pub index_mut-requires : goal.index_mut-requires
index_mut-requires c =
    let at = above_here c.args.rows.now c.loop-row.row c.index-rows-row.result (Some c.in-Some.above) c.loop-row-test.true c.index-rows-row.is (sym c.in-Some.is ∙ c.above.ensures.above) in
    let parent = parent_within c.args.rows.now c.loop-row.row c.in-Some.above c.requires.parents c.loop-row-test.true at in
    let whole = c.loop-row.invariant.whole in
    search rules

pub loop-row-preserved : goal.loop-row-preserved
loop-row-preserved c =
    let at = above_here c.args.rows.now c.loop-row.row c.index-rows-row.result (Some c.in-Some.above) c.loop-row-test.true c.index-rows-row.is (sym c.in-Some.is ∙ c.above.ensures.above) in
    let parent = parent_within c.args.rows.now c.loop-row.row c.in-Some.above c.requires.parents c.loop-row-test.true at in
    let free = is_none c.at.result c.if-is_some.ensures in
    let taken = siblings_at c.args.rows.now c.loop-row.row c.loop-row.kids.items c.in-Some.above c.from-parent.result c.index.result.now parent c.from-parent.ensures c.index.ensures c.loop-row.invariant in
    subst (λ i. AreHung c.args.rows.now (c.loop-row.row + 1) (set c.loop-row.kids.items i c.with.result)) (sym c.from-parent.ensures)
    (hung_more c.args.rows.now c.loop-row.row c.loop-row.kids.items c.in-Some.above c.with.result parent at (taken ∙ sym c.at.ensures ∙ free) c.with.ensures.here
    (λ p apart. c.with.ensures.elsewhere p apart ∙ siblings_at_port c.args.rows.now c.loop-row.row c.loop-row.kids.items c.in-Some.above c.from-parent.result c.index.result.now p parent c.from-parent.ensures c.index.ensures c.loop-row.invariant)
    c.loop-row.invariant)

pub returns-clause-ok : goal.returns-clause-ok
returns-clause-ok c =
    let e : c.loop-row.row ≡ length c.args.rows.now = omega arith in
    subst (λ n. (q : ℕ) → q < n → IsDoubled c.args.rows.now q → ⊥) e c.loop-row.invariant.one

pub returns-clause-kids : goal.returns-clause-kids
returns-clause-kids c =
    let e : c.loop-row.row ≡ length c.args.rows.now = omega arith in
    hung_all c.args.rows.now c.loop-row.row c.loop-row.kids.items e c.loop-row.invariant
