-- The order in which a frame visits the slaves: out at the ports 3, 1, 2 of each, where they are connected.
use Rattle.std.specs.Prelude.{ℕ, zero, suc, Bool, true, false, ◌&&◌, eqb, Option, Some, None, List, [], ◌∷◌, ◌++◌, length}
use Rattle.std.specs.List.{position, position_or_len}
use Rattle.cable_tree.specs.declared.port.Above.{Above}
use Rattle.cable_tree.specs.declared.port.Port.{Port}
use Rattle.cable_tree.specs.declared.port.Port.TheVariants.{P1, P2, P3}
use Rattle.cable_tree.specs.Row.{Row}

abbrev pub is_port : Port → Port → Bool
is_port P1 P1 = true
is_port P2 P2 = true
is_port P3 P3 = true
is_port _ _ = false

abbrev pub is_at : ℕ → Port → Option Above → Bool
is_at r p None = false
is_at r p (Some a) = eqb a.row r && is_port a.port p

-- the row that hangs at port p of row r, None where the port is not connected
unfoldable pub child : List Row → ℕ → Port → Option ℕ
child rows r p = position (λ row. is_at r p row.above) rows

-- the order behind a port
abbrev pub behind : (ℕ → List ℕ) → Option ℕ → List ℕ
behind order None = []
behind order (Some k) = order k

-- a slave, and then the orders of the children at its ports 3, 1 and 2, down to so many levels
unfoldable pub subtree_within : List Row → ℕ → ℕ → List ℕ
subtree_within rows zero r = []
subtree_within rows (suc levels) r =
    r ∷ (behind (subtree_within rows levels) (child rows r P3)
    ++ behind (subtree_within rows levels) (child rows r P1)
    ++ behind (subtree_within rows levels) (child rows r P2))

-- the order of the subtree of a slave; n rows have at most n levels
abbrev pub subtree : List Row → ℕ → List ℕ
subtree rows r = subtree_within rows (length rows) r

abbrev pub is_nowhere : Option Above → Bool
is_nowhere None = true
is_nowhere (Some a) = false

-- the first row without a parent
unfoldable pub root : List Row → ℕ
root rows = position_or_len (λ row. is_nowhere row.above) rows

-- the frame order
abbrev pub order : List Row → List ℕ
order rows = subtree rows (root rows)
