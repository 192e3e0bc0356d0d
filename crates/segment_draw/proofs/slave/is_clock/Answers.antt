use Rattle.std.proofs.Common.{◌<◌, ◌∙◌, false, map, length, sym, ap, arith}
use Rattle.std.proofs.lemmas.List.{length-map, get_or-map}
use Rattle.segment_file.specs.Seen.{row_seen}
use Rattle.segment_file.specs.Segment.{is_clock}
use Rattle.segment_draw.proofs.slave.is_clock.Goals as goal

pub returns : goal.returns
returns c =
    let rows = c.args.rows.now in
    let item = c.index-rows-from.result in
    let low : c.args.row < length (map row_seen rows) = omega (arith, c.requires, length-map rows row_seen) in
    c.has_clock.ensures
    ∙ rw c.from.ensures (sym (get_or-map is_clock (map row_seen rows) c.args.row (row_seen item) false low ∙ ap is_clock (get_or-map row_seen rows c.args.row item (row_seen item) c.requires)))
