use Rattle.std.proofs.Common.{◌<◌, ◌-◌, length}
use Rattle.std.specs.Prelude.{◌↔◌}
use Rattle.cable_tree.specs.Segment.{LeadsToRoot}
use Rattle.cable_tree.proofs.checks.leads_to_root.Given as goal

abbrev pub invariant-loop-step : goal.invariant-loop-step
invariant-loop-step l = record {
  within : l.at < length l.rows;
  same : LeadsToRoot l.rows (length l.rows) l.row ↔ LeadsToRoot l.rows (length l.rows - l._step) l.at;
}
