use Rattle.std.proofs.Common.{◌≡◌, ◌≤◌, [], drop, length}
use Rattle.std.specs.Prelude.{codes}
use Rattle.serde_json.specs.View.{items_view}
use Rattle.segment_shape.specs.Rows.{rows_after}
use Rattle.segment_shape.specs.Rates.{rate_in, last_tick}
use Rattle.segment_shape.proofs.rate_rows.rates_in.Given as goal

abbrev pub invariant-loop-value : goal.invariant-loop-value
invariant-loop-value l = record {
  rows : rows_after (codes "rates") rate_in l.rates.items (items_view (drop l.value-index l.values)) ≡ rows_after (codes "rates") rate_in [] (items_view l.values);
  each : length l.rates.items ≡ l.value-index;
  last : l.last ≡ last_tick 0 l.rates.items;
  room : l.last ≤ 1000000000000;
}
