use Rattle.std.proofs.Common.{◌≡◌, take}
use Rattle.std.specs.List.{All}
use Rattle.cable_tree.specs.Row.{IsRow}
use Rattle.cable_tree.proofs.wiring.copy_rows.Given as goal

abbrev pub invariant-loop-row : goal.invariant-loop-row
invariant-loop-row l = record {
  same : l.copy.items ≡ take l.row-index l.rows;
  fit : All IsRow l.copy.items;
}
