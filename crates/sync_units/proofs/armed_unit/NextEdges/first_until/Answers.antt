use Rattle.std.proofs.Common.{rules, ◌∙◌}
use Rattle.sync_units.proofs.NextEdges.{first_of_two, first_of_sync0, first_of_sync1}
use Rattle.sync_units.proofs.armed_unit.NextEdges.first_until.Goals as goal
use Rattle.sync_units.proofs.armed_unit.NextEdges.first_until.Goals.{in-Some-Some, in-Some-None, in-Some-None-2}

pub returns-then-first-t : goal.returns-then-first-t
returns-then-first-t c = elim c.match-self.branch [
  | in-Some-Some w ↦ let some = w.in-Some-Some in first_of_two _ _ some.a some.b _ some.is-0 some.is-1 (w.first-is ∙ w.min-first.ensures) c.if-first-t.true
  | in-Some-None w ↦ let some = w.in-Some-None in first_of_sync0 _ _ some.field-0-0 _ some.is-0 some.is-1 (search rules) c.if-first-t.true
  | in-Some-None-2 w ↦ let some = w.in-Some-None in first_of_sync1 _ _ some.field-0-1 _ some.is-0 some.is-1 (search rules) c.if-first-t.true
]
