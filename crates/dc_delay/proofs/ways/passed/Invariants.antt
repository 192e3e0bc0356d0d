use Rattle.std.proofs.Common.{◌≡◌, ◌+◌, ◌-◌, ◌*◌, ◌≤◌, length}
use Rattle.dc_delay.specs.MeasuredDelay.{passed, passed_within}
use Rattle.dc_delay.specs.ShapeRows.{tp_ns, tf_ns}
use Rattle.dc_delay.specs.Table.{table_measures, table_rows}
use Rattle.dc_delay.proofs.ways.passed.Given as goal

abbrev pub invariant-loop : goal.invariant-loop
invariant-loop l = record {
  ahead : passed (table_rows l.slaves) (table_measures l.slaves) (tp_ns (table_rows l.slaves)) l.position
      ≡ l.ahead + passed_within (table_rows l.slaves) (table_measures l.slaves) (tp_ns (table_rows l.slaves)) (length l.slaves - l.counter) l.here;
  back : passed (table_rows l.slaves) (table_measures l.slaves) (tf_ns (table_rows l.slaves)) l.position
      ≡ l.back + passed_within (table_rows l.slaves) (table_measures l.slaves) (tf_ns (table_rows l.slaves)) (length l.slaves - l.counter) l.here;
  few_ahead : l.ahead ≤ 65536 * l.counter;
  few_back : l.back ≤ 65536 * l.counter;
}
