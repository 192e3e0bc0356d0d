use Rattle.dc_bounds.proofs.Drawing.{drawn_first, drawn_next, drawn_locked, drawn_within}
use Rattle.dc_bounds.proofs.laws.clocks_are_drawn.Goals as goal

pub returns : goal.returns
returns c = record { first = drawn_first; next = drawn_next; locked = drawn_locked; within = drawn_within }
