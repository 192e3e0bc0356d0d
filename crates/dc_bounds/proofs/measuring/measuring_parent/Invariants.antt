use Rattle.std.proofs.Common.{◌≡◌, ◌-◌, length}
use Rattle.dc_bounds.specs.Weight.{flag, measuring_parent, measuring_within}
use Rattle.dc_bounds.proofs.measuring.measuring_parent.Given as goal

abbrev pub invariant-loop : goal.invariant-loop
invariant-loop g l =
    let rows = g.T.Topology.rows l.slaves in
    measuring_parent rows (flag l.measuring) l.row ≡ measuring_within rows (flag l.measuring) (length rows - l.counter) l.here
