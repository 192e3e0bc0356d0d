use Rattle.std.proofs.Common.{rules, ◌≡◌, ◌<◌, ◌≤◌, length, true, false, arith}
use Rattle.std.specs.Prelude.{Some, None}
use Rattle.std.specs.Option.{is_some}
use Rattle.std.proofs.lemmas.Bool.Decides.{nat_tests}
use Rattle.dc_delay.specs.ShapeRows.{tp_ns, tf_ns}
use Rattle.dc_delay.specs.Table.{table_measures, table_rows}
use Rattle.dc_delay.proofs.Climbing.{passed_root, passed_here, passed_higher, passed_end}
use Rattle.dc_delay.proofs.Tables.{above_is, measures_is, tp_is, tf_is}
use Rattle.dc_delay.proofs.ways.passed.Goals as goal

pub returns-in_default-clause-ahead : goal.returns-in_default-clause-ahead
returns-in_default-clause-ahead c =
    let ss = c.args.slaves.now in
    let turn : c.loop.counter < length c.args.slaves.now = grind (arith, nat_tests) in
    let gone : c.slave.result.above ≡ None = search rules in
    let root = above_is ss c.loop.here c.slave.result None c.slave.ensures.is gone in
    let rest = passed_root (table_rows ss) (table_measures ss) (tp_ns (table_rows ss)) (length ss) c.loop.counter c.loop.here turn root in
    omega (arith, c.loop.invariant.ahead, rest)

pub returns-in_default-clause-back : goal.returns-in_default-clause-back
returns-in_default-clause-back c =
    let ss = c.args.slaves.now in
    let turn : c.loop.counter < length c.args.slaves.now = grind (arith, nat_tests) in
    let gone : c.slave.result.above ≡ None = search rules in
    let root = above_is ss c.loop.here c.slave.result None c.slave.ensures.is gone in
    let rest = passed_root (table_rows ss) (table_measures ss) (tf_ns (table_rows ss)) (length ss) c.loop.counter c.loop.here turn root in
    omega (arith, c.loop.invariant.back, rest)

pub returns-then-is_some-clause-ahead : goal.returns-then-is_some-clause-ahead
returns-then-is_some-clause-ahead c =
    let ss = c.args.slaves.now in
    let turn : c.loop.counter < length c.args.slaves.now = grind (arith, nat_tests) in
    let a = c.in-Some.above in
    let up = above_is ss c.loop.here c.slave.result (Some a) c.slave.ensures.is c.in-Some.is in
    let read : is_some c.slave-between.result.latch ≡ true = search rules in
    let measured = measures_is ss a.row c.slave-between.result true c.slave-between.ensures.is read in
    let rest = passed_here (table_rows ss) (table_measures ss) (tp_ns (table_rows ss)) (length ss) c.loop.counter c.loop.here a turn up measured in
    omega (arith, c.loop.invariant.ahead, rest)

pub returns-then-is_some-clause-back : goal.returns-then-is_some-clause-back
returns-then-is_some-clause-back c =
    let ss = c.args.slaves.now in
    let turn : c.loop.counter < length c.args.slaves.now = grind (arith, nat_tests) in
    let a = c.in-Some.above in
    let up = above_is ss c.loop.here c.slave.result (Some a) c.slave.ensures.is c.in-Some.is in
    let read : is_some c.slave-between.result.latch ≡ true = search rules in
    let measured = measures_is ss a.row c.slave-between.result true c.slave-between.ensures.is read in
    let rest = passed_here (table_rows ss) (table_measures ss) (tf_ns (table_rows ss)) (length ss) c.loop.counter c.loop.here a turn up measured in
    omega (arith, c.loop.invariant.back, rest)

pub loop-preserved : goal.loop-preserved
loop-preserved c =
    let ss = c.args.slaves.now in
    let turn : c.loop.counter < length c.args.slaves.now = grind (arith, nat_tests) in
    let a = c.in-Some.above in
    let up = above_is ss c.loop.here c.slave.result (Some a) c.slave.ensures.is c.in-Some.is in
    let read : is_some c.slave-between.result.latch ≡ false = search rules in
    let not_measured = measures_is ss a.row c.slave-between.result false c.slave-between.ensures.is read in
    let tp = tp_is ss a.row c.slave-between.result c.slave-between.ensures.is in
    let tf = tf_is ss a.row c.slave-between.result c.slave-between.ensures.is in
    let more_ahead = passed_higher (table_rows ss) (table_measures ss) (tp_ns (table_rows ss)) (length ss) c.loop.counter c.loop.here a turn up not_measured in
    let more_back = passed_higher (table_rows ss) (table_measures ss) (tf_ns (table_rows ss)) (length ss) c.loop.counter c.loop.here a turn up not_measured in
    record {
      ahead = omega (arith, c.loop.invariant.ahead, more_ahead, tp);
      back = omega (arith, c.loop.invariant.back, more_back, tf);
      few_ahead = search rules;
      few_back = search rules;
    }

pub returns-clause-ahead : goal.returns-clause-ahead
returns-clause-ahead c =
    let ss = c.args.slaves.now in
    let over : length c.args.slaves.now ≤ c.loop.counter = grind (arith, nat_tests) in
    let rest = passed_end (table_rows ss) (table_measures ss) (tp_ns (table_rows ss)) (length ss) c.loop.counter c.loop.here over in
    omega (arith, c.loop.invariant.ahead, rest)

pub returns-clause-back : goal.returns-clause-back
returns-clause-back c =
    let ss = c.args.slaves.now in
    let over : length c.args.slaves.now ≤ c.loop.counter = grind (arith, nat_tests) in
    let rest = passed_end (table_rows ss) (table_measures ss) (tf_ns (table_rows ss)) (length ss) c.loop.counter c.loop.here over in
    omega (arith, c.loop.invariant.back, rest)
