-- Which edges a list keeps.
use Rattle.std.specs.Prelude.{ℕ, ◌-◌, ◌^◌, List, [], ◌∷◌, ◌++◌, ◌&&◌, nat_lt, if◌then◌else◌}
use Rattle.sync_units.specs.declared.edge.Edge.{Edge}
use Rattle.sync_units.specs.declared.edge.Signal.{Signal}
use Rattle.sync_units.specs.declared.edge.Signal.TheVariants.{Sync0, Sync1}

-- how many edges of each signal it keeps, how many more it has room for, and the edges
pub record Kept : Type 0 where
  pub keep : ℕ
  pub room0 : ℕ
  pub room1 : ℕ
  pub edges : List Edge

abbrev pub empty_list : ℕ → Kept
empty_list keep = record { keep = keep; room0 = keep; room1 = keep; edges = [] }

abbrev pub room : Signal → Kept → ℕ
room Sync0 l = l.room0
room Sync1 l = l.room1

-- each edge raised takes room; it is kept where there was some, and its index is below 2^32
abbrev pub edges_with : Edge → Kept → List Edge
edges_with e l = if nat_lt 0 (room e.signal l) && nat_lt e.index (2 ^ 32) then l.edges ++ e ∷ [] else l.edges

abbrev pub with_edge : Signal → List Edge → Kept → Kept
with_edge Sync0 edges l = record l { room0 = l.room0 - 1; edges = edges }
with_edge Sync1 edges l = record l { room1 = l.room1 - 1; edges = edges }

abbrev pub put : Edge → Kept → Kept
put e l = with_edge e.signal (edges_with e l) l

abbrev pub put_all : List Edge → Kept → Kept
put_all [] l = l
put_all (e ∷ es) l = put_all es (put e l)
