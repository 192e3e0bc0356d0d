-- A tree told by the positions of its slaves in the frame order, in place of their rows.
use Rattle.std.specs.Prelude.{◌≡◌, ℕ, ◌<◌, eqb, Bool, Option, Some, None, List, length, map}
use Rattle.std.specs.List.{position_or_len}
use Rattle.cable_tree.specs.declared.port.Above.{Above}
use Rattle.cable_tree.specs.Row.{Row, above, row_at}
use Rattle.cable_tree.specs.FrameOrder.{order}

-- the position of a row: its place in the frame order, counted from 0
unfoldable pub position_of : List Row → ℕ → ℕ
position_of rows r = position_or_len (λ q. eqb q r) (order rows)

-- a port of a row, as that port at the position of the row
abbrev pub by_position : List Row → Option Above → Option Above
by_position rows None = None
by_position rows (Some a) = Some (record { row = position_of rows a.row; port = a.port })

-- where a row hangs
abbrev pub placed : List Row → ℕ → Option Above
placed rows r = by_position rows (above rows r)

-- where the slaves hang, in frame order
abbrev pub places : List Row → List (Option Above)
places rows = map (placed rows) (order rows)

-- the row of a slave, with its parent by position
abbrev pub renumbered_row : List Row → ℕ → Row
renumbered_row rows r = record (row_at rows r) { above = placed rows r }

-- the rows in frame order, so that each position is a row
abbrev pub renumbered : List Row → List Row
renumbered rows = map (renumbered_row rows) (order rows)

-- `there` says of each position what `here` says of the row that stands at it
abbrev pub IsByPosition : List Row → (ℕ → Bool) → (ℕ → Bool) → Type 0
IsByPosition rows here there = (r : ℕ) → r < length rows → there (position_of rows r) ≡ here r
