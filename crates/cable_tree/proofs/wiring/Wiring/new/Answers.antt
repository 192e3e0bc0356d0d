use Rattle.std.proofs.Common.{◌<◌, length, arith, sym, ap, ◌∙◌, subst}
use Rattle.std.proofs.lemmas.Bool.Decides.{nat_tests}
use Rattle.std.specs.Prelude.{MatchOption}
use Rattle.std.specs.List.{All}
use Rattle.cable_tree.specs.Row.{IsRow}
use Rattle.cable_tree.specs.Segment.{IsSegment, IsTree, IsRoot}
use Rattle.cable_tree.specs.Refusals.{IsFree}
use Rattle.cable_tree.specs.Kept.{AreKids}
use Rattle.cable_tree.specs.FrameOrder.{root}
use Rattle.cable_tree.proofs.Checked.{rootless, tree_from_checks}
use Rattle.cable_tree.proofs.Children.{root_of}
use Rattle.cable_tree.proofs.wiring.Wiring.new.Goals as goal

pub returns-in_default-clause-err : goal.returns-in_default-clause-err
returns-in_default-clause-err c =
    let rows = c.args.rows.now in
    let some : 0 < length rows = grind (arith, nat_tests) in
    let none = subst (λ o. MatchOption o (IsFree rows (IsRoot rows)) (λ r. (r < length rows) × IsRoot rows r)) c.in_default.is c.in_ok-root.ensures.root in
    let parents = c.in_ok-check_parents.ensures.ok in (
      parents,
      c.in_ok-root.ensures.ok,
      c.in_ok-kids.ensures.ok,
      record { within = some; here = rootless rows none parents (length rows) 0 some; least = λ q less. absurd (omega arith) },
    )

tree_of : (c : goal.In_ok-rows) → IsTree c.args.rows.now
tree_of c =
    let rows = c.args.rows.now in
    let some : 0 < length rows = grind (arith, nat_tests) in
    let one = subst (λ o. MatchOption o (IsFree rows (IsRoot rows)) (λ r. (r < length rows) × IsRoot rows r)) c.in-Some.is c.in_ok-root.ensures.root in
    tree_from_checks rows some c.in_ok-check_parents.ensures.ok c.in_ok-root.ensures.ok c.in_ok-kids.ensures.ok c.in-Some.root one.0 one.1 c.in_ok-check_ways.ensures.ok

segment_of : (c : goal.In_ok-rows) → IsSegment c.args.rows.now
segment_of c = record { tree = tree_of c; slaves = subst (λ rs. All IsRow rs) c.in_ok-rows.ensures.same c.in_ok-rows.ensures.fit; few = c.requires }

pub invariant_of-result : goal.invariant_of-result
invariant_of-result c =
    let rows = c.args.rows.now in
    let same = sym c.in_ok-rows.ensures.same in
    let tree = tree_of c in
    let top = root_of rows tree in
    let one = subst (λ o. MatchOption o (IsFree rows (IsRoot rows)) (λ r. (r < length rows) × IsRoot rows r)) c.in-Some.is c.in_ok-root.ensures.root in
    record {
      segment = subst (λ rs. IsSegment rs) same (segment_of c);
      kids = subst (λ rs. AreKids rs c.in_ok-kids.kids.items) same c.in_ok-kids.ensures.kids;
      root = tree.one_root c.in-Some.root (root rows) one.0 top.0 one.1 top.1 ∙ ap root same;
    }

pub returns-clause-segment : goal.returns-clause-segment
returns-clause-segment c = subst (λ rs. IsSegment rs) (sym c.in_ok-rows.ensures.same) (segment_of c)
