use Rattle.std.proofs.Common.{◌≡◌, ◌∷◌, [], decimal, refl, rules}
use Rattle.std.proofs.lemmas.Result.{on_ok_weaker}
use Rattle.csv.specs.Writing.{default_writer, row_text}
use Rattle.edge_report.specs.EdgeRows.{row_fields, signal_text}
use Rattle.edge_report.proofs.edge_rows.put_numbers.Goals as goal

pub returns : goal.returns
returns g c =
    let i : c.as_bytes.result.now ≡ decimal c.args.index = search rules in
    let s : c.as_bytes-2.result.now ≡ signal_text c.args.signal = search rules in
    let t : c.as_bytes-3.result.now ≡ decimal c.args.time_fs = search rules in
    let d : c.as_bytes-4.result.now ≡ decimal c.args.shift_ns = search rules in
    let e : row_text default_writer (c.as_bytes.result.now ∷ c.args.id.now ∷ c.as_bytes-2.result.now ∷ c.as_bytes-3.result.now ∷ c.as_bytes-4.result.now ∷ [])
    ≡ row_text default_writer (row_fields c.args.index c.args.id.now (signal_text c.args.signal) c.args.time_fs c.args.shift_ns) = rw (i, s, t, d) refl in
    on_ok_weaker c.put_texts.result (λ h bytes w. rw (← e) (h bytes w)) c.put_texts.ensures
