use Rattle.std.proofs.Common.{◌≡◌, ◌*◌, ◌≤◌, ◌++◌, drop, length, map}
use Rattle.std.specs.List.{All}
use Rattle.segment_bounds.specs.Bounded.{IsSmall, bounded}
use Rattle.segment_bounds.specs.Window.{signals_from}
use Rattle.segment_bounds.proofs.bounded.signals_of.Given as goal

abbrev pub invariant-loop-row : goal.invariant-loop-row
invariant-loop-row l = record {
  same : l.signals.items ++ map (bounded l.segment) (signals_from l.row (drop l.row l.segment.rows)) ≡ map (bounded l.segment) (signals_from 0 l.segment.rows);
  few : length l.signals.items ≤ 2 * l.row;
  each : All IsSmall l.signals.items;
}
