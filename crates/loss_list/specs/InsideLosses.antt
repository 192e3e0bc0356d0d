-- What a `LossList` keeps.
use Rattle.std.specs.Prelude.{List}
use Rattle.loss_list.specs.LossTable.{IsTable}
use Rattle.loss_list.specs.declared.loss_row.LossRow.{LossRow}
use Rattle.loss_list.specs.declared.loss_list.LossList.TheInside.{Inside}

abbrev pub rows_of : Inside → List LossRow
rows_of a = a.rows.items

abbrev pub IsKept : Inside → Type 0
IsKept a = IsTable a.rows.items a.table.items
