-- The path of a fault in a row, as it is seen from the row.
use Rattle.std.specs.Prelude.{ℕ, List, [], ◌++◌, codes}
use Rattle.segment_shape.specs.KeyNames.{name_of}
use Rattle.segment_shape.specs.Paths.{element, dotted}
use Rattle.segment_shape.specs.declared.row_fault.RowFault.{RowFault}
use Rattle.segment_shape.specs.declared.row_fault.RowFault.TheVariants.{Row, At}
use Rattle.segment_shape.specs.declared.slave_fault.SlaveFault.{SlaveFault}
use Rattle.segment_shape.specs.declared.slave_fault.SlaveFault.TheVariants.{Own, Rate}

-- the row as a whole has the empty path
abbrev pub path_of_row : RowFault → List ℕ
path_of_row Row = []
path_of_row (At key) = name_of key

-- a fault of a rate row stands behind the row's place in the list
abbrev pub path_of_slave : SlaveFault → List ℕ
path_of_slave (Own fault) = path_of_row fault
path_of_slave (Rate i fault) = element (codes "rates") i ++ dotted (path_of_row fault)
