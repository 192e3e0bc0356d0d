use Rattle.std.proofs.Common.{◌≡◌, max, drop}
use Rattle.segment_bounds.specs.Bounded.{bounded_window}
use Rattle.segment_bounds.specs.Window.{greatest}
use Rattle.segment_bounds.proofs.windows.greatest.Given as goal

abbrev pub invariant-loop-place : goal.invariant-loop-place
invariant-loop-place l =
    max l.greatest (greatest (bounded_window l.ppm) (drop l.place l.signals)) ≡ greatest (bounded_window l.ppm) l.signals
