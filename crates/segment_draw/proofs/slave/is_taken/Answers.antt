use Rattle.std.proofs.Common.{◌≡◌, ◌<◌, ◌∙◌, true, map, length, sym, ap, arith}
use Rattle.std.proofs.lemmas.List.{length-map, get_or-map}
use Rattle.std.proofs.lemmas.List.Folds.{list_any_at}
use Rattle.cable_tree.specs.FrameOrder.{is_at}
use Rattle.segment_file.specs.Segment.{RowValue}
use Rattle.segment_file.specs.Seen.{row_seen}
use Rattle.segment_draw.proofs.slave.is_taken.Goals as goal

pub returns-then-is_at : goal.returns-then-is_at
returns-then-is_at c =
    let rows = c.args.rows.now in
    let k = c.loop-earlier.earlier-index in
    let item = c.earlier-item.result in
    let p = λ (r : RowValue). is_at c.args.row c.args.port r.above in
    let more : k < length (map row_seen rows) = omega (arith, c.loop-earlier-test.true, length-map rows row_seen) in
    let here : p (row_seen item) ≡ true = sym c.is_at.ensures ∙ c.if-is_at.true in
    sym (list_any_at p (map row_seen rows) k (row_seen item) more (ap p (get_or-map row_seen rows k item (row_seen item) c.loop-earlier-test.true ∙ ap row_seen (sym c.earlier-item.is)) ∙ here))
