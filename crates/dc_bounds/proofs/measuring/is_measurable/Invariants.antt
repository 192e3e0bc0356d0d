use Rattle.std.proofs.Common.{◌≡◌, ◌-◌, length}
use Rattle.dc_bounds.specs.Measurable.{is_measurable, is_measured_within}
use Rattle.dc_bounds.specs.Weight.{flag}
use Rattle.dc_bounds.proofs.measuring.is_measurable.Given as goal

abbrev pub invariant-loop : goal.invariant-loop
invariant-loop g l =
    let rows = g.T.Topology.rows l.slaves in
    is_measurable rows (flag l.measuring) l.row ≡ is_measured_within rows (flag l.measuring) (length rows - l.counter) l.here
