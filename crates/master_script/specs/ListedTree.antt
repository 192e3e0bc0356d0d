-- The tree that statuses list, as a function. As a relation it is `Lists` of dc_topology.
use Rattle.std.specs.Prelude.{ℕ, suc, List, [], ◌∷◌, ◌++◌, None, Result, Ok, Err, if◌then◌else◌}
use Rattle.dc_topology.specs.DlStatus.{is_formed}
use Rattle.dc_topology.specs.Listed.{Place, places}
use Rattle.dc_topology.specs.declared.error.TopologyError.{TopologyError}
use Rattle.dc_topology.specs.declared.error.TopologyError.TheVariants.{BadStatus, Surplus, Missing}

-- a slave at its place, before all that hangs behind it
abbrev pub behind : Place → Result (List Place) TopologyError → Result (List Place) TopologyError
behind place (Ok hung) = Ok (place ∷ hung)
behind place (Err e) = Err e

-- from a position on, each slave takes the next free place and opens those of its connected ports
unfoldable pub walk : List Place → ℕ → List ℕ → Result (List Place) TopologyError
walk [] q [] = Ok []
walk (place ∷ free) q [] = Err Missing
walk [] q (status ∷ rest) = Err (Surplus q)
walk (place ∷ free) q (status ∷ rest) =
    if is_formed status then behind place (walk (places q status ++ free) (suc q) rest) else Err (BadStatus q)

-- where each slave hangs, or why the statuses list no tree
abbrev pub tree_of : List ℕ → Result (List Place) TopologyError
tree_of statuses = walk (None ∷ []) 0 statuses
