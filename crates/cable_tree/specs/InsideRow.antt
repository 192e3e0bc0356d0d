-- The row that the fields of a `TreeRow` are.
use Rattle.cable_tree.specs.declared.row.TreeRow.TheInside.{Inside}
use Rattle.cable_tree.specs.Row.{Row, IsRow}

abbrev pub row_of : Inside → Row
row_of fields = record { above = fields.above; tp_ns = fields.tp_ns; tf_ns = fields.tf_ns; cable_ps = fields.cable_ps }

abbrev pub inside_of : Row → Inside
inside_of row = record { above = row.above; tp_ns = row.tp_ns; tf_ns = row.tf_ns; cable_ps = row.cable_ps }

abbrev pub IsKept : Inside → Type 0
IsKept fields = IsRow (row_of fields)
