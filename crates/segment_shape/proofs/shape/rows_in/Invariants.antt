use Rattle.std.proofs.Common.{◌≡◌, [], map, drop, length}
use Rattle.std.specs.Prelude.{codes}
use Rattle.serde_json.specs.View.{items_view}
use Rattle.segment_shape.specs.Rows.{rows_after}
use Rattle.segment_shape.specs.Slaves.{slave_in}
use Rattle.segment_shape.specs.Seen.{row_seen}
use Rattle.segment_shape.proofs.shape.rows_in.Given as goal

abbrev pub invariant-loop-value : goal.invariant-loop-value
invariant-loop-value l = record {
  rows : rows_after (codes "slaves") (slave_in l.head.version l.head.cycle_ns) (map row_seen l.rows.items) (items_view (drop l.value-index l.values))
      ≡ rows_after (codes "slaves") (slave_in l.head.version l.head.cycle_ns) [] (items_view l.values);
  each : length l.rows.items ≡ l.value-index;
}
