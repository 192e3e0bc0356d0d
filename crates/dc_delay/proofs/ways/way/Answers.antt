use Rattle.std.proofs.Common.{rules, ◌≡◌, ◌<◌, ◌≤◌, length, arith, sym, ap, ◌∙◌}
use Rattle.std.specs.Prelude.{None}
use Rattle.std.proofs.lemmas.Bool.Decides.{nat_tests}
use Rattle.dc_bounds.specs.Weight.{measuring_parent}
use Rattle.dc_delay.specs.MeasuredDelay.{hop_ahead, hop_back}
use Rattle.dc_delay.specs.Table.{table_laps, table_measures, table_rows}
use Rattle.dc_delay.proofs.Climbing.{summed_top, summed_higher, summed_end}
use Rattle.dc_delay.proofs.ways.way.Goals as goal

pub returns-in_default-clause-ahead : goal.returns-in_default-clause-ahead
returns-in_default-clause-ahead c =
    let ss = c.args.slaves.now in
    let turn : c.loop.counter < length c.args.slaves.now = grind (arith, nat_tests) in
    let gone : c.measuring_parent.result ≡ None = search rules in
    let top = ap (λ m. measuring_parent (table_rows ss) m c.loop.here) (sym c.measuring.ensures.is) ∙ sym c.measuring_parent.ensures.is ∙ gone in
    let rest = summed_top (table_rows ss) (table_measures ss) (hop_ahead (table_rows ss) (table_measures ss) (table_laps ss)) (length ss) c.loop.counter c.loop.here turn top in
    omega (arith, c.loop.invariant.ahead, rest)

pub returns-in_default-clause-back : goal.returns-in_default-clause-back
returns-in_default-clause-back c =
    let ss = c.args.slaves.now in
    let turn : c.loop.counter < length c.args.slaves.now = grind (arith, nat_tests) in
    let gone : c.measuring_parent.result ≡ None = search rules in
    let top = ap (λ m. measuring_parent (table_rows ss) m c.loop.here) (sym c.measuring.ensures.is) ∙ sym c.measuring_parent.ensures.is ∙ gone in
    let rest = summed_top (table_rows ss) (table_measures ss) (hop_back (table_rows ss) (table_measures ss) (table_laps ss)) (length ss) c.loop.counter c.loop.here turn top in
    omega (arith, c.loop.invariant.back, rest)

pub loop-preserved : goal.loop-preserved
loop-preserved c =
    let ss = c.args.slaves.now in
    let turn : c.loop.counter < length c.args.slaves.now = grind (arith, nat_tests) in
    let a = c.in-Some.above in
    let up = ap (λ m. measuring_parent (table_rows ss) m c.loop.here) (sym c.measuring.ensures.is) ∙ sym c.measuring_parent.ensures.is ∙ c.in-Some.is in
    let more_ahead = summed_higher (table_rows ss) (table_measures ss) (hop_ahead (table_rows ss) (table_measures ss) (table_laps ss)) (length ss) c.loop.counter c.loop.here a turn up in
    let more_back = summed_higher (table_rows ss) (table_measures ss) (hop_back (table_rows ss) (table_measures ss) (table_laps ss)) (length ss) c.loop.counter c.loop.here a turn up in
    record {
      here = search rules;
      ahead = omega (arith, c.loop.invariant.ahead, more_ahead, c.hop-hop.ensures.ahead);
      back = omega (arith, c.loop.invariant.back, more_back, c.hop-hop.ensures.back);
      few_ahead = search rules;
      few_back = search rules;
    }

pub returns-clause-ahead : goal.returns-clause-ahead
returns-clause-ahead c =
    let ss = c.args.slaves.now in
    let over : length c.args.slaves.now ≤ c.loop.counter = grind (arith, nat_tests) in
    let rest = summed_end (table_rows ss) (table_measures ss) (hop_ahead (table_rows ss) (table_measures ss) (table_laps ss)) (length ss) c.loop.counter c.loop.here over in
    omega (arith, c.loop.invariant.ahead, rest)

pub returns-clause-back : goal.returns-clause-back
returns-clause-back c =
    let ss = c.args.slaves.now in
    let over : length c.args.slaves.now ≤ c.loop.counter = grind (arith, nat_tests) in
    let rest = summed_end (table_rows ss) (table_measures ss) (hop_back (table_rows ss) (table_measures ss) (table_laps ss)) (length ss) c.loop.counter c.loop.here over in
    omega (arith, c.loop.invariant.back, rest)
