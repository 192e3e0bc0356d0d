use Rattle.std.proofs.lemmas.Result.{on_ok_weaker}
use Rattle.edge_report.specs.EdgeRows.{header_row}
use Rattle.edge_report.proofs.edge_rows.put_header.Goals as goal

pub returns : goal.returns
unfolding header_row
returns g c = on_ok_weaker c.put_fields.result (λ h bytes w. h bytes w) c.put_fields.ensures
