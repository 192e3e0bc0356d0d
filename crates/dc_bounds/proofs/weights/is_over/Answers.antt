use Rattle.std.proofs.Common.{rules, ◌≡◌, ◌<◌, ◌≤◌, length, arith, sym, ◌∙◌}
use Rattle.std.specs.Prelude.{Some, None}
use Rattle.std.proofs.lemmas.Bool.Decides.{nat_tests}
use Rattle.dc_bounds.specs.Weight.{flag, measuring_parent}
use Rattle.dc_bounds.proofs.Climbing.{over_here, over_top, over_higher, over_end}
use Rattle.dc_bounds.proofs.weights.is_over.Goals as goal

pub returns-then-here-over : goal.returns-then-here-over
returns-then-here-over c =
    let rows = c.args.tree.now in
    let measures = flag c.args.measuring.now in
    let n = length c.args.tree.now in
    let k = c.loop.counter in
    let here = c.loop.here in
    let turn : c.loop.counter < length c.args.tree.now = grind (arith, nat_tests) in
    sym (c.loop.invariant.same ∙ over_here rows measures c.args.over n k here turn c.if-here-over.true)

pub returns-in_default : goal.returns-in_default
returns-in_default c =
    let rows = c.args.tree.now in
    let measures = flag c.args.measuring.now in
    let n = length c.args.tree.now in
    let k = c.loop.counter in
    let here = c.loop.here in
    let turn : c.loop.counter < length c.args.tree.now = grind (arith, nat_tests) in
    let gone : c.measuring_parent.result ≡ None = search rules in
    let top : measuring_parent rows measures here ≡ None = sym c.measuring_parent.ensures.is ∙ gone in
    sym (c.loop.invariant.same ∙ over_top rows measures c.args.over n k here turn c.if-here-over.false top)

pub loop-preserved : goal.loop-preserved
loop-preserved c =
    let rows = c.args.tree.now in
    let measures = flag c.args.measuring.now in
    let n = length c.args.tree.now in
    let k = c.loop.counter in
    let here = c.loop.here in
    let turn : c.loop.counter < length c.args.tree.now = grind (arith, nat_tests) in
    let up : measuring_parent rows measures here ≡ Some c.in-Some.above = sym c.measuring_parent.ensures.is ∙ c.in-Some.is in
    record {
      segment = c.loop.invariant.segment;
      here = search rules;
      same = c.loop.invariant.same ∙ over_higher rows measures c.args.over n k here c.in-Some.above turn c.if-here-over.false up;
    }

pub returns : goal.returns
returns c =
    let rows = c.args.tree.now in
    let measures = flag c.args.measuring.now in
    let n = length c.args.tree.now in
    let k = c.loop.counter in
    let here = c.loop.here in
    let over : length c.args.tree.now ≤ c.loop.counter = grind (arith, nat_tests) in
    sym (c.loop.invariant.same ∙ over_end rows measures c.args.over n k here over)
