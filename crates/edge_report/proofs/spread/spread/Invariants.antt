use Rattle.std.proofs.Common.{◌≡◌, take}
use Rattle.segment_bounds.specs.Window.{greatest}
use Rattle.edge_report.specs.Spread.{spread_between}
use Rattle.edge_report.proofs.Spreading.{AreMeetings}
use Rattle.edge_report.proofs.spread.spread.Given as goal

abbrev pub invariant-loop-edge : goal.invariant-loop-edge
invariant-loop-edge l = record {
  spread : l.spread ≡ greatest (spread_between l.segment) (take l.edge-index l.edges);
  told : AreMeetings l.segment l.edges l.edge-index l.meetings.items;
}
