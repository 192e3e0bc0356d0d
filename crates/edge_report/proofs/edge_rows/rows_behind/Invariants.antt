use Rattle.std.proofs.Common.{◌++◌, take, Some}
use Rattle.std.specs.List.{flat_map}
use Rattle.edge_report.specs.EdgeRows.{edge_row, header_row}
use Rattle.edge_report.specs.InsideRows.{Wrote}
use Rattle.edge_report.proofs.edge_rows.rows_behind.Given as goal

abbrev pub invariant-loop-edge : goal.invariant-loop-edge
invariant-loop-edge l = Wrote (λ v. Some v.items) l.writer (l.fn.text.items ++ (header_row ++ flat_map (edge_row l.segment) (take l.edge-index l.edges)))
