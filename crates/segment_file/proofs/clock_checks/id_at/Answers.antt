use Rattle.std.proofs.Common.{◌<◌, [], map, length, sym, ap, ◌∙◌, arith}
use Rattle.std.proofs.lemmas.List.{get_or-map, length-map}
use Rattle.segment_file.specs.Seen.{row_seen}
use Rattle.segment_file.proofs.clock_checks.id_at.Goals as goal

pub returns : goal.returns
returns c =
    let row = c.index-rows-from.result in
    let rows = c.args.rows.now in
    let low : c.args.row < length (map row_seen rows) = omega (arith, length-map rows row_seen) in
    rw c.from.ensures
    (sym (get_or-map (λ r. r.id) (map row_seen rows) c.args.row (row_seen row) [] low ∙ ap (λ r. r.id) (get_or-map row_seen rows c.args.row row (row_seen row) c.requires)))
