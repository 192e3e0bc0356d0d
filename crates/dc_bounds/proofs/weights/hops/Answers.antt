use Rattle.std.proofs.Common.{rules, ◌≡◌, ◌<◌, ◌≤◌, length, arith, sym, ◌∙◌}
use Rattle.std.specs.Prelude.{Some, None}
use Rattle.std.proofs.lemmas.Bool.Decides.{nat_tests}
use Rattle.dc_bounds.specs.Weight.{flag, measuring_parent}
use Rattle.dc_bounds.proofs.Climbing.{hops_here, hops_top, hops_higher, hops_end}
use Rattle.dc_bounds.proofs.weights.hops.Goals as goal

pub returns-then-here-over-clause-is : goal.returns-then-here-over-clause-is
returns-then-here-over-clause-is c =
    let rows = c.args.tree.now in
    let measures = flag c.args.measuring.now in
    let n = length c.args.tree.now in
    let k = c.loop.counter in
    let here = c.loop.here in
    let turn : c.loop.counter < length c.args.tree.now = grind (arith, nat_tests) in
    let rest = hops_here rows measures c.args.over n k here turn c.if-here-over.true in
    sym (c.loop.invariant.same ∙ omega (arith, rest))

pub returns-in_default-clause-is : goal.returns-in_default-clause-is
returns-in_default-clause-is c =
    let rows = c.args.tree.now in
    let measures = flag c.args.measuring.now in
    let n = length c.args.tree.now in
    let k = c.loop.counter in
    let here = c.loop.here in
    let turn : c.loop.counter < length c.args.tree.now = grind (arith, nat_tests) in
    let gone : c.measuring_parent.result ≡ None = search rules in
    let top : measuring_parent rows measures here ≡ None = sym c.measuring_parent.ensures.is ∙ gone in
    let rest = hops_top rows measures c.args.over n k here turn c.if-here-over.false top in
    sym (c.loop.invariant.same ∙ omega (arith, rest))

pub loop-preserved : goal.loop-preserved
loop-preserved c =
    let rows = c.args.tree.now in
    let measures = flag c.args.measuring.now in
    let n = length c.args.tree.now in
    let k = c.loop.counter in
    let here = c.loop.here in
    let turn : c.loop.counter < length c.args.tree.now = grind (arith, nat_tests) in
    let up : measuring_parent rows measures here ≡ Some c.in-Some.above = sym c.measuring_parent.ensures.is ∙ c.in-Some.is in
    let rest = hops_higher rows measures c.args.over n k here c.in-Some.above turn c.if-here-over.false up in
    record {
      segment = c.loop.invariant.segment;
      here = search rules;
      same = c.loop.invariant.same ∙ omega (arith, rest, c.hop_weight-sum.ensures.is);
      few = omega (arith, c.loop.invariant.few, c.hop_weight-sum.ensures.few);
    }

pub returns-clause-is : goal.returns-clause-is
returns-clause-is c =
    let rows = c.args.tree.now in
    let measures = flag c.args.measuring.now in
    let n = length c.args.tree.now in
    let k = c.loop.counter in
    let here = c.loop.here in
    let over : length c.args.tree.now ≤ c.loop.counter = grind (arith, nat_tests) in
    let rest = hops_end rows measures c.args.over n k here over in
    sym (c.loop.invariant.same ∙ omega (arith, rest))
