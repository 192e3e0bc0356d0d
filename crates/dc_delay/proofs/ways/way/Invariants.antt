use Rattle.std.proofs.Common.{◌≡◌, ◌+◌, ◌-◌, ◌*◌, ◌<◌, ◌≤◌, length}
use Rattle.dc_delay.specs.MeasuredDelay.{ahead, back, hop_ahead, hop_back, summed_within}
use Rattle.dc_delay.specs.Table.{table_laps, table_measures, table_rows}
use Rattle.dc_delay.proofs.ways.way.Given as goal

abbrev pub invariant-loop : goal.invariant-loop
invariant-loop l = record {
  here : l.here < length l.slaves;
  ahead : ahead (table_rows l.slaves) (table_measures l.slaves) (table_laps l.slaves) l.position
      ≡ l.ahead + summed_within (table_rows l.slaves) (table_measures l.slaves) (hop_ahead (table_rows l.slaves) (table_measures l.slaves) (table_laps l.slaves)) (length l.slaves - l.counter) l.here;
  back : back (table_rows l.slaves) (table_measures l.slaves) (table_laps l.slaves) l.position
      ≡ l.back + summed_within (table_rows l.slaves) (table_measures l.slaves) (hop_back (table_rows l.slaves) (table_measures l.slaves) (table_laps l.slaves)) (length l.slaves - l.counter) l.here;
  few_ahead : l.ahead ≤ 17179869184 * l.counter;
  few_back : l.back ≤ 17179869184 * l.counter;
}
