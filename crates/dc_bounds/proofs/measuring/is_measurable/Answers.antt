use Rattle.std.proofs.Common.{rules, ◌≡◌, ◌<◌, ◌≤◌, length, false, arith, sym, ap, ◌∙◌}
use Rattle.std.specs.Prelude.{Some, None}
use Rattle.std.proofs.lemmas.Bool.Decides.{nat_tests}
use Rattle.std.proofs.lemmas.List.{get_or_past}
use Rattle.cable_tree.specs.Row.{above, no_row}
use Rattle.dc_bounds.specs.Weight.{flag}
use Rattle.dc_bounds.proofs.Leading.{leads_nowhere, leads_past_the_root, leads_to_one, leads_to_a_branch, leads_on, leads_astray}
use Rattle.dc_bounds.proofs.measuring.is_measurable.Goals as goal

pub returns-in_default : goal.returns-in_default
returns-in_default g c =
    let rows = g.T.Topology.rows c.args.slaves.now in
    let turn : c.loop.counter < length rows = grind (arith, nat_tests) in
    let gone : c.parent.result ≡ None = search rules in
    let root : above rows c.loop.here ≡ None = sym c.parent.ensures ∙ gone in
    sym (c.loop.invariant ∙ leads_past_the_root rows (flag c.args.measuring.now) (length rows) c.loop.counter c.loop.here turn root)

pub returns-then-higher-measuring : goal.returns-then-higher-measuring
returns-then-higher-measuring g c =
    let rows = g.T.Topology.rows c.args.slaves.now in
    let turn : c.loop.counter < length rows = grind (arith, nat_tests) in
    let a = c.in-Some.above in
    let up : above rows c.loop.here ≡ Some a = sym c.parent.ensures ∙ c.in-Some.is in
    let past : length c.args.measuring.now ≤ a.row = omega (arith, c.from-higher.ensures, c.if-higher-measuring.true) in
    let passed : flag c.args.measuring.now a.row ≡ false = get_or_past c.args.measuring.now a.row false past in
    let astray : above rows a.row ≡ None = ap (λ row. row.above) (get_or_past rows a.row no_row (omega (arith, past, c.requires))) in
    sym (c.loop.invariant ∙ leads_astray rows (flag c.args.measuring.now) (length rows) c.loop.counter c.loop.here a turn up passed astray)

pub returns-then-measuring-higher : goal.returns-then-measuring-higher
returns-then-measuring-higher g c =
    let rows = g.T.Topology.rows c.args.slaves.now in
    let turn : c.loop.counter < length rows = grind (arith, nat_tests) in
    let a = c.in-Some.above in
    let up : above rows c.loop.here ≡ Some a = sym c.parent.ensures ∙ c.in-Some.is in
    let measured = sym (ap (flag c.args.measuring.now) c.from-higher.ensures) ∙ c.if-measuring-higher.true in
    sym (c.loop.invariant ∙ leads_to_one rows (flag c.args.measuring.now) (length rows) c.loop.counter c.loop.here a turn up measured)

pub returns-then-branches : goal.returns-then-branches
returns-then-branches g c =
    let rows = g.T.Topology.rows c.args.slaves.now in
    let turn : c.loop.counter < length rows = grind (arith, nat_tests) in
    let a = c.in-Some.above in
    let up : above rows c.loop.here ≡ Some a = sym c.parent.ensures ∙ c.in-Some.is in
    let passed = sym (ap (flag c.args.measuring.now) c.from-higher.ensures) ∙ c.if-measuring-higher.false in
    let many = sym c.branches.ensures ∙ c.if-branches.true in
    sym (c.loop.invariant ∙ leads_to_a_branch rows (flag c.args.measuring.now) (length rows) c.loop.counter c.loop.here a turn up passed many)

pub loop-preserved : goal.loop-preserved
loop-preserved g c =
    let rows = g.T.Topology.rows c.args.slaves.now in
    let turn : c.loop.counter < length rows = grind (arith, nat_tests) in
    let a = c.in-Some.above in
    let up : above rows c.loop.here ≡ Some a = sym c.parent.ensures ∙ c.in-Some.is in
    let passed = sym (ap (flag c.args.measuring.now) c.from-higher.ensures) ∙ c.if-measuring-higher.false in
    let few = sym c.branches.ensures ∙ c.if-branches.false in
    c.loop.invariant ∙ leads_on rows (flag c.args.measuring.now) (length rows) c.loop.counter c.loop.here a turn up passed few

pub returns : goal.returns
returns g c =
    let rows = g.T.Topology.rows c.args.slaves.now in
    let over : length rows ≤ c.loop.counter = grind (arith, nat_tests) in
    sym (c.loop.invariant ∙ leads_nowhere rows (flag c.args.measuring.now) (length rows) c.loop.counter c.loop.here over)
