-- Which tree a list of DL statuses in frame order tells.
use Rattle.std.specs.Prelude.{◌≡◌, ℕ, suc, ◌+◌, true, List, [], ◌∷◌, ◌++◌, length, Option, Some, None, if◌then◌else◌}
use Rattle.cable_tree.specs.declared.port.Above.{Above}
use Rattle.cable_tree.specs.declared.port.Port.{Port}
use Rattle.cable_tree.specs.declared.port.Port.TheVariants.{P1, P2, P3}
use Rattle.dc_topology.specs.DlStatus.{is_connected, is_formed}

-- where a slave hangs: at a port of another one, or nowhere at the first
abbrev pub Place : Type 0
Place = Option Above

abbrev pub port_number : Port → ℕ
port_number P1 = 1
port_number P2 = 2
port_number P3 = 3

-- a place for a child, where the port of the slave at this position is connected
abbrev pub place_at : ℕ → ℕ → Port → List Place
place_at position status port = if is_connected status (port_number port) then Some (record { row = position; port = port }) ∷ [] else []

-- the places for its children, in the order of a frame
unfoldable pub places : ℕ → ℕ → List Place
places position status = place_at position status P3 ++ place_at position status P1 ++ place_at position status P2

-- The slaves that hang at these places, with all that hangs below them, stand in frame order from this position on, have
-- these statuses and hang so: at the first place a slave, behind it what hangs at its own places, and then what hangs at
-- the other places.
pub data Hangs : List Place → ℕ → List ℕ → List Place → Type 0 where
  nothing : (q : ℕ) → Hangs [] q [] []
  slave : (place : Place) (others : List Place) (q status : ℕ) (below : List ℕ) (hung : List Place) (rest : List ℕ) (behind : List Place)
      → is_formed status ≡ true → Hangs (places q status) (suc q) below hung → Hangs others (suc q + length below) rest behind
      → Hangs (place ∷ others) q (status ∷ below ++ rest) (place ∷ hung ++ behind)

-- the statuses list this tree, in which each slave hangs so
abbrev pub Lists : List ℕ → List Place → Type 0
Lists statuses hung = Hangs (None ∷ []) 0 statuses hung
