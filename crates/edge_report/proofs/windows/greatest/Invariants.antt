use Rattle.std.proofs.Common.{◌≡◌, max, drop}
use Rattle.edge_report.specs.InsideWindow.{bounded_window}
use Rattle.segment_bounds.specs.Window.{greatest}
use Rattle.edge_report.proofs.windows.greatest.Given as goal

abbrev pub invariant-loop-place : goal.invariant-loop-place
invariant-loop-place l =
    max l.greatest (greatest (bounded_window l.ppm) (drop l.place l.signals)) ≡ greatest (bounded_window l.ppm) l.signals
