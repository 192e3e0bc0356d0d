use Rattle.std.proofs.Common.{◌≡◌, map, take, nat_eq}
use Rattle.std.specs.List.{All, filter}
use Rattle.edge_report.specs.InsideWindow.{bounded, IsSmall}
use Rattle.edge_report.proofs.windows.signals.Given as goal

abbrev pub invariant-loop-edge : goal.invariant-loop-edge
invariant-loop-edge l = record {
  is : l.signals.items ≡ map (bounded l.segment) (filter (λ e. nat_eq e.edge.index 0) (take l.edge-index l.edges));
  small : All IsSmall l.signals.items;
}
