-- A shape with the forwarding delays of its slaves, as rows in frame order. It knows no cable, and no definition here reads one.
use Rattle.std.specs.Prelude.{ℕ, List, [], ◌∷◌, map}
use Rattle.std.specs.List.{range_with_len}
use Rattle.cable_tree.specs.Row.{Row, row_at}
use Rattle.dc_topology.specs.Listed.{Place}
use Rattle.dc_delay.specs.declared.kind.Kind.{Kind}

abbrev pub row_of : Place → Kind → Row
row_of place kind = record { above = place; tp_ns = kind.tp_ns; tf_ns = kind.tf_ns; cable_ps = 0 }

abbrev pub rows_of : List Place → List Kind → List Row
rows_of [] kinds = []
rows_of (place ∷ places) [] = []
rows_of (place ∷ places) (kind ∷ kinds) = row_of place kind ∷ rows_of places kinds

-- a shape alone, as rows that keep a frame for no time
abbrev pub hanging : List Place → List Row
hanging places = map (λ place. row_of place (record { tp_ns = 0; tf_ns = 0 })) places

-- where a row hangs, and its forwarding delays
abbrev pub places_of : List Row → List Place
places_of rows = map (λ (row : Row). row.above) rows

abbrev pub kind_of : Row → Kind
kind_of row = record { tp_ns = row.tp_ns; tf_ns = row.tf_ns }

abbrev pub kinds_of : List Row → List Kind
kinds_of rows = map kind_of rows

-- the frame order of so many rows that stand in it
abbrev pub positions : ℕ → List ℕ
positions n = range_with_len 0 n

-- tP and tF of a row, in ns
abbrev pub tp_ns : List Row → ℕ → ℕ
tp_ns rows r = (row_at rows r).tp_ns

abbrev pub tf_ns : List Row → ℕ → ℕ
tf_ns rows r = (row_at rows r).tf_ns
