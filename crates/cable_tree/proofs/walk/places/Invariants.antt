use Rattle.cable_tree.proofs.Tables.{ArePlacedFirst}
use Rattle.cable_tree.proofs.walk.places.Given as goal

abbrev pub invariant-loop-place : goal.invariant-loop-place
invariant-loop-place l = ArePlacedFirst l.wiring l.place l.places.items
