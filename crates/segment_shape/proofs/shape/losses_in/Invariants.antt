use Rattle.std.proofs.Common.{◌≡◌, [], drop, length}
use Rattle.std.specs.Prelude.{codes}
use Rattle.serde_json.specs.View.{items_view}
use Rattle.segment_shape.specs.Rows.{rows_after}
use Rattle.segment_shape.specs.Losses.{loss_in}
use Rattle.segment_shape.proofs.shape.losses_in.Given as goal

abbrev pub invariant-loop-value : goal.invariant-loop-value
invariant-loop-value l = record {
  rows : rows_after (codes "losses") (loss_in l.slaves) l.losses (items_view (drop l.value-index l.values))
      ≡ rows_after (codes "losses") (loss_in l.slaves) [] (items_view l.values);
  each : length l.losses ≡ l.value-index;
}
