use Rattle.std.proofs.Common.{◌≡◌, ◌∙◌, ap, refl}
use Rattle.std.proofs.lemmas.Result.{on_ok_weaker}
use Rattle.csv.specs.Writing.{default_writer, row_text}
use Rattle.segment_file.specs.Segment.{RowValue}
use Rattle.edge_report.specs.EdgeRows.{edge_row, row_fields, signal_text}
use Rattle.edge_report.specs.Edges.{total_shift}
use Rattle.edge_report.specs.Slaves.{slave_at}
use Rattle.edge_report.proofs.edge_rows.put_edge.Goals as goal

pub returns : goal.returns
unfolding edge_row
returns g c =
    let s = c.args.segment.now in
    let x = c.args.edge.now in
    let id : c.as_bytes.result.now ≡ (slave_at s x.position).id = c.as_bytes.ensures.value ∙ c.deref.ensures.0 ∙ ap (λ (r : RowValue). r.id) c.slave-row.ensures.is in
    let shift : c.total_shift-shift_ns.result ≡ total_shift s x = c.total_shift-shift_ns.ensures.is in
    let e : row_text default_writer (row_fields x.edge.index c.as_bytes.result.now (signal_text x.edge.signal) x.edge.time_fs c.total_shift-shift_ns.result)
    ≡ row_text default_writer (row_fields x.edge.index (slave_at s x.position).id (signal_text x.edge.signal) x.edge.time_fs (total_shift s x)) = rw (id, shift) refl in
    on_ok_weaker c.put_numbers.result (λ h bytes w. rw (← e) (h bytes w)) c.put_numbers.ensures
