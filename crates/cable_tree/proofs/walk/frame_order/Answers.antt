use Rattle.std.proofs.Common.{◌≡◌, ◌<◌, ◌++◌, [], ◌∷◌, length, rules, arith, sym, ap, ◌∙◌, subst, append-nil}
use Rattle.std.specs.List.{All}
use Rattle.cable_tree.specs.FrameOrder.{root as top_of}
use Rattle.cable_tree.proofs.Children.{root_of}
use Rattle.cable_tree.proofs.Walking.{to_visit, turn_same, turn_smaller, turn_within, last_within, rest_within, first_visit, one_row}
use Rattle.cable_tree.proofs.walk.frame_order.Goals as goal

pub loop-row-init : goal.loop-row-init
loop-row-init c =
    let rows = c.args.wiring.now in
    let pushed : c.push.new.self.items ≡ c.root.result ∷ [] = search rules in
    let none : c.in_ok-order.order.items ≡ [] = search rules in
    let root = c.root.ensures.is in
    let top = (root_of rows c.root.ensures.segment.tree).0 in
    record {
      same = rw (none, pushed, root) (first_visit rows (top_of rows));
      within = rw (pushed) (one_row rows c.root.result (omega arith));
    }

pub put_children-requires : goal.put_children-requires
put_children-requires c =
    let rows = c.args.wiring.now in
    let popped : c.loop-row.stack.items ≡ c.pop.new.self.items ++ c.in-Some.row ∷ [] = search rules in
    last_within rows c.pop.new.self.items c.in-Some.row (subst (All (λ k. k < length rows)) popped c.loop-row.invariant.within)

pub loop-row-smaller : goal.loop-row-smaller
loop-row-smaller c =
    let rows = c.args.wiring.now in
    let popped : c.loop-row.stack.items ≡ c.pop.new.self.items ++ c.in-Some.row ∷ [] = search rules in
    let within = last_within rows c.pop.new.self.items c.in-Some.row (subst (All (λ k. k < length rows)) popped c.loop-row.invariant.within) in
    let less = turn_smaller rows c.len.ensures.segment.tree c.pop.new.self.items c.in-Some.row within in
    rw (c.in_ok-put_children.ensures, popped) less

pub loop-row-preserved : goal.loop-row-preserved
loop-row-preserved c =
    let rows = c.args.wiring.now in
    let popped : c.loop-row.stack.items ≡ c.pop.new.self.items ++ c.in-Some.row ∷ [] = search rules in
    let said : c.push-in-Some.new.self.items ≡ c.loop-row.order.items ++ c.in-Some.row ∷ [] = search rules in
    let all = subst (All (λ k. k < length rows)) popped c.loop-row.invariant.within in
    let within = last_within rows c.pop.new.self.items c.in-Some.row all in
    let before = ap (λ s. c.loop-row.order.items ++ to_visit rows s) popped in
    record {
      same = rw (said, c.in_ok-put_children.ensures) (turn_same rows c.len.ensures.segment.tree c.loop-row.order.items c.pop.new.self.items c.in-Some.row within ∙ sym before ∙ c.loop-row.invariant.same);
      within = rw c.in_ok-put_children.ensures (turn_within rows c.pop.new.self.items c.in-Some.row (rest_within rows c.pop.new.self.items c.in-Some.row all));
    }

pub returns : goal.returns
returns c =
    let rows = c.args.wiring.now in
    let empty : c.loop-row.stack.items ≡ [] = search rules in
    let last = ap (λ s. c.loop-row.order.items ++ to_visit rows s) empty in
    sym (append-nil c.loop-row.order.items) ∙ sym last ∙ c.loop-row.invariant.same
