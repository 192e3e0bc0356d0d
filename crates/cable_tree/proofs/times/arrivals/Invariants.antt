use Rattle.cable_tree.specs.PathSums.{arrive}
use Rattle.cable_tree.proofs.Tables.{IsMadeFirst}
use Rattle.cable_tree.proofs.times.arrivals.Given as goal

abbrev pub invariant-loop-row : goal.invariant-loop-row
invariant-loop-row l = IsMadeFirst l.wiring (arrive l.wiring) l.row-index l.arrivals.items
