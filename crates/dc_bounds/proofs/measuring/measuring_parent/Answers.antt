use Rattle.std.proofs.Common.{◌≡◌, ◌<◌, ◌≤◌, length, true, false, arith, sym, ◌∙◌}
use Rattle.std.specs.Prelude.{Some, None}
use Rattle.std.proofs.lemmas.Bool.Decides.{nat_tests}
use Rattle.cable_tree.specs.Row.{above}
use Rattle.dc_bounds.specs.Weight.{flag}
use Rattle.dc_bounds.proofs.Climbing.{flag_within, measuring_root, measuring_here, measuring_higher, measuring_end}
use Rattle.dc_bounds.proofs.measuring.measuring_parent.Goals as goal

pub returns-in_err-above-clause-is : goal.returns-in_err-above-clause-is
returns-in_err-above-clause-is g c =
    let rows = g.T.Topology.rows c.args.slaves.now in
    let turn : c.loop.counter < length rows = grind (arith, nat_tests) in
    let root : above rows c.loop.here ≡ None = sym c.parent.ensures ∙ c.in_err-above.was in
    c.from_residual.ensures ∙ sym (c.loop.invariant ∙ measuring_root rows (flag c.args.measuring.now) (length rows) c.loop.counter c.loop.here turn root)

pub returns-then-measures-clause-is : goal.returns-then-measures-clause-is
returns-then-measures-clause-is g c =
    let rows = g.T.Topology.rows c.args.slaves.now in
    let turn : c.loop.counter < length rows = grind (arith, nat_tests) in
    let a = c.in_ok-above.above in
    let up : above rows c.loop.here ≡ Some a = sym c.parent.ensures ∙ c.in_ok-above.was in
    let measured : flag c.args.measuring.now a.row ≡ true = sym c.measures.ensures ∙ c.if-measures.true in
    sym (c.loop.invariant ∙ measuring_here rows (flag c.args.measuring.now) (length rows) c.loop.counter c.loop.here a turn up measured)

pub returns-then-measures-clause-within : goal.returns-then-measures-clause-within
returns-then-measures-clause-within g c = flag_within c.args.measuring.now c.in_ok-above.above.row (sym c.measures.ensures ∙ c.if-measures.true)

pub loop-preserved : goal.loop-preserved
loop-preserved g c =
    let rows = g.T.Topology.rows c.args.slaves.now in
    let turn : c.loop.counter < length rows = grind (arith, nat_tests) in
    let a = c.in_ok-above.above in
    let up : above rows c.loop.here ≡ Some a = sym c.parent.ensures ∙ c.in_ok-above.was in
    let passed : flag c.args.measuring.now a.row ≡ false = sym c.measures.ensures ∙ c.if-measures.false in
    c.loop.invariant ∙ measuring_higher rows (flag c.args.measuring.now) (length rows) c.loop.counter c.loop.here a turn up passed

pub returns-clause-is : goal.returns-clause-is
returns-clause-is g c =
    let rows = g.T.Topology.rows c.args.slaves.now in
    let over : length rows ≤ c.loop.counter = grind (arith, nat_tests) in
    sym (c.loop.invariant ∙ measuring_end rows (flag c.args.measuring.now) (length rows) c.loop.counter c.loop.here over)
