use Rattle.std.proofs.Common.{◌≡◌}
use Rattle.std.specs.Prelude.{Some}
use Rattle.dc_bounds.specs.Weight.{flag}
use Rattle.dc_delay.specs.MeasuredDelay.{delays_from}
use Rattle.dc_delay.specs.ShapeRows.{positions}
use Rattle.dc_delay.specs.Table.{table_laps, table_measures, table_rows}
use Rattle.dc_delay.proofs.measured.put_delays.Given as goal

abbrev pub invariant-loop-position : goal.invariant-loop-position
invariant-loop-position l =
    l.out.items
    ≡ delays_from (table_rows l.slaves) (table_measures l.slaves) (flag l.timed) (table_laps l.slaves) (Some l.reference) (positions l.position)
