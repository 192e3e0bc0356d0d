-- What a `Table` keeps.
use Rattle.std.specs.Prelude.{◌≡◌, length}
use Rattle.dc_bounds.specs.Weight.{flag}
use Rattle.dc_delay.specs.declared.table.Table.TheInside.{Inside}
use Rattle.dc_delay.specs.Table.{IsTable, table_measures}

pub record IsKept (fields : Inside) : Type 0 where
  pub table : IsTable fields.slaves.items
  pub whole : length fields.measuring.items ≡ length fields.slaves.items
  pub measuring : flag fields.measuring.items ≡ table_measures fields.slaves.items
