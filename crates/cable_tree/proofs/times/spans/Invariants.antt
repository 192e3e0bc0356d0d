use Rattle.cable_tree.specs.PathSums.{span}
use Rattle.cable_tree.proofs.Tables.{IsMadeLast}
use Rattle.cable_tree.proofs.times.spans.Given as goal

abbrev pub invariant-loop-done : goal.invariant-loop-done
invariant-loop-done l = IsMadeLast l.wiring (span l.wiring) l.done l.spans.items
