use Rattle.std.proofs.Common.{◌≡◌, ℕ, ◌<◌, length, arith, refl, subst}
use Rattle.std.proofs.lemmas.Bool.{false≢true}
use Rattle.cable_tree.specs.Refusals.{IsOrphan}
use Rattle.cable_tree.proofs.checks.check_parents.Goals as goal
use borrow.Author.Count.{below_more}

pub returns-then-is_orphan-clause-err : goal.returns-then-is_orphan-clause-err
returns-then-is_orphan-clause-err c =
    record { within = c.loop-row-test.true; here = c.if-is_orphan.ensures.0 refl; least = c.loop-row.invariant }

pub loop-row-preserved : goal.loop-row-preserved
loop-row-preserved c = below_more (λ q. IsOrphan c.args.rows.now q → ⊥) c.loop-row.row c.loop-row.invariant (λ is. false≢true (c.if-is_orphan.ensures.1 is))

pub returns-clause-ok : goal.returns-clause-ok
returns-clause-ok c =
    let e : c.loop-row.row ≡ length c.args.rows.now = omega arith in
    subst (λ n. (q : ℕ) → q < n → IsOrphan c.args.rows.now q → ⊥) e c.loop-row.invariant
