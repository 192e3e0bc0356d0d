-- The stack of the walk, which holds the rows that are still to be visited, the next one on top.
use Rattle.std.specs.Prelude.{ℕ, Option, Some, None, List, [], ◌∷◌, ◌++◌}
use Rattle.cable_tree.specs.declared.port.Port.TheVariants.{P1, P2, P3}
use Rattle.cable_tree.specs.Row.{Row}
use Rattle.cable_tree.specs.FrameOrder.{child}

-- what hangs at a port, as a list
abbrev pub one_or_none : Option ℕ → List ℕ
one_or_none None = []
one_or_none (Some k) = k ∷ []

-- a stack of rows with the children of a row put on it, that at port 3 on top
abbrev pub with_children : List Row → ℕ → List ℕ → List ℕ
with_children rows r stack = stack ++ one_or_none (child rows r P2) ++ one_or_none (child rows r P1) ++ one_or_none (child rows r P3)
