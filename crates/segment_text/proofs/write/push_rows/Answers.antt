use Rattle.std.proofs.Common.{◌≡◌, ◌++◌, ◌<◌, ◌∙◌, ap, map, length, true, arith}
use Rattle.std.proofs.lemmas.List.{length-map}
use Rattle.segment_shape.specs.Written.{slave_data}
use Rattle.segment_shape.specs.Values.{is_id}
use Rattle.segment_file.specs.Seen.{row_seen}
use Rattle.segment_file.specs.Written.{written_row}
use Rattle.segment_text.proofs.TextLemmas.{items_step}
use Rattle.segment_text.proofs.RowLemmas.{at_row, parent_low, text_at}
use Rattle.segment_text.proofs.PlainLemmas.{id_plain}
use Rattle.segment_text.proofs.write.push_rows.Goals as goal

pub push_slave-requires-clause-above : goal.push_slave-requires-clause-above
push_slave-requires-clause-above c = parent_low c.args.segment.now c.rows-rows.result.now c.loop-row.row-index c.row-item.result c.rows-rows.ensures.legal c.rows-rows.ensures.is c.loop-row-test.true c.row-item.is

pub push_slave-requires-clause-id : goal.push_slave-requires-clause-id
push_slave-requires-clause-id c =
    id_plain c.row-item.result.id.bytes (at_row (λ r. is_id r.id ≡ true) c.rows-rows.result.now c.args.segment.now.rows c.loop-row.row-index c.row-item.result c.rows-rows.ensures.is c.loop-row-test.true c.row-item.is c.rows-rows.ensures.legal.ids)

pub loop-row-preserved : goal.loop-row-preserved
loop-row-preserved c =
    let s = c.args.segment.now in
    let k = c.loop-row.row-index in
    let d = c.row-item.result in
    let says = slave_data s.head.version in
    let rows = c.rows-rows.result.now in
    let low : k < length (map (written_row s.rows) s.rows) = omega (arith, c.loop-row-test.true, length-map s.rows (written_row s.rows), length-map rows row_seen, ap length c.rows-rows.ensures.is) in
    let same = text_at s rows k d c.version-version.result c.rows-rows.ensures.is c.loop-row-test.true c.row-item.is c.version-version.ensures.is in
    items_step says (map (written_row s.rows) s.rows) k (written_row s.rows (row_seen d)) c.loop-row.later _ c.loop-row.text.items c.push_comma_if.new.text.items c.push_slave.new.text.items low
    c.loop-row.invariant c.in_ok-push_comma_if.ensures (c.in_ok-push_slave.ensures ∙ ap (λ t. c.push_comma_if.new.text.items ++ t) same)
