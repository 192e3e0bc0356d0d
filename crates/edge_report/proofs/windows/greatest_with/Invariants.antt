use Rattle.std.proofs.Common.{◌≡◌, max, drop}
use Rattle.edge_report.specs.InsideWindow.{bounded_window}
use Rattle.segment_bounds.specs.Window.{greatest_with}
use Rattle.edge_report.proofs.windows.greatest_with.Given as goal

abbrev pub invariant-loop-other : goal.invariant-loop-other
invariant-loop-other l =
    max l.greatest (greatest_with (bounded_window l.ppm) l.signal (drop l.other-index l.others)) ≡ greatest_with (bounded_window l.ppm) l.signal l.others
