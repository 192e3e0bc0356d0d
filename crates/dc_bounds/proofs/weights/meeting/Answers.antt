use Rattle.std.proofs.Common.{rules, ◌≡◌, ◌<◌, ◌≤◌, length, arith, sym, ◌∙◌}
use Rattle.std.specs.Prelude.{Some, None}
use Rattle.std.proofs.lemmas.Bool.Decides.{nat_tests}
use Rattle.dc_bounds.specs.Weight.{flag, measuring_parent}
use Rattle.dc_bounds.proofs.Climbing.{meeting_here, meeting_top, meeting_higher, meeting_end}
use Rattle.dc_bounds.proofs.weights.meeting.Goals as goal

pub returns-then-is_over-clause-is : goal.returns-then-is_over-clause-is
returns-then-is_over-clause-is c =
    let rows = c.args.tree.now in
    let measures = flag c.args.measuring.now in
    let n = length c.args.tree.now in
    let k = c.loop.counter in
    let here = c.loop.here in
    let turn : c.loop.counter < length c.args.tree.now = grind (arith, nat_tests) in
    sym (c.loop.invariant.same ∙ meeting_here rows measures c.args.reference n k here turn (sym c.is_over.ensures ∙ c.if-is_over.true))

pub returns-in_default-clause-is : goal.returns-in_default-clause-is
returns-in_default-clause-is c =
    let rows = c.args.tree.now in
    let measures = flag c.args.measuring.now in
    let n = length c.args.tree.now in
    let k = c.loop.counter in
    let here = c.loop.here in
    let turn : c.loop.counter < length c.args.tree.now = grind (arith, nat_tests) in
    let gone : c.measuring_parent.result ≡ None = search rules in
    let top : measuring_parent rows measures here ≡ None = sym c.measuring_parent.ensures.is ∙ gone in
    sym (c.loop.invariant.same ∙ meeting_top rows measures c.args.reference n k here turn (sym c.is_over.ensures ∙ c.if-is_over.false) top)

pub loop-preserved : goal.loop-preserved
loop-preserved c =
    let rows = c.args.tree.now in
    let measures = flag c.args.measuring.now in
    let n = length c.args.tree.now in
    let k = c.loop.counter in
    let here = c.loop.here in
    let turn : c.loop.counter < length c.args.tree.now = grind (arith, nat_tests) in
    let up : measuring_parent rows measures here ≡ Some c.in-Some.above = sym c.measuring_parent.ensures.is ∙ c.in-Some.is in
    record {
      segment = c.loop.invariant.segment;
      here = search rules;
      same = c.loop.invariant.same ∙ meeting_higher rows measures c.args.reference n k here c.in-Some.above turn (sym c.is_over.ensures ∙ c.if-is_over.false) up;
    }

pub returns-clause-is : goal.returns-clause-is
returns-clause-is c =
    let rows = c.args.tree.now in
    let measures = flag c.args.measuring.now in
    let n = length c.args.tree.now in
    let k = c.loop.counter in
    let here = c.loop.here in
    let over : length c.args.tree.now ≤ c.loop.counter = grind (arith, nat_tests) in
    sym (c.loop.invariant.same ∙ meeting_end rows measures c.args.reference n k here over)
