-- What the tables of a tree hold.
use Rattle.std.specs.Prelude.{◌≡◌, ℕ, ◌<◌, Option, Some, None, List, length, slice_index, slice_index_or}
use Rattle.cable_tree.specs.declared.port.Port.{Port}
use Rattle.cable_tree.specs.declared.port.Port.TheVariants.{P1, P2, P3}
use Rattle.cable_tree.specs.declared.kids.Kids.{Kids}
use Rattle.cable_tree.specs.Row.{Row}
use Rattle.cable_tree.specs.FrameOrder.{child, order}
use Rattle.cable_tree.specs.PathSums.{span}

abbrev pub kid_at : Kids → Port → Option ℕ
kid_at kids P1 = kids.first
kid_at kids P2 = kids.second
kid_at kids P3 = kids.third

abbrev pub no_kids : Kids
no_kids = record { first = None; second = None; third = None }

-- the table of the children of each row
pub record AreKids (rows : List Row) (kids : List Kids) : Type 0 where
  pub whole : length kids ≡ length rows
  pub each : (r : ℕ) (p : Port) → r < length rows → kid_at (slice_index_or kids r no_kids) p ≡ child rows r p

-- the table of a number for each row
pub record IsTable (rows : List Row) (number : ℕ → ℕ) (table : List ℕ) : Type 0 where
  pub whole : length table ≡ length rows
  pub each : (r : ℕ) → r < length rows → slice_index table r ≡ number r

-- the table has the span of each child of a row
abbrev pub HasChildSpans : List Row → ℕ → List ℕ → Type 0
HasChildSpans rows r spans = (p : Port) (k : ℕ) → child rows r p ≡ Some k → slice_index spans k ≡ span rows k

-- the table of each row's place in the frame order
pub record ArePlaces (rows : List Row) (places : List ℕ) : Type 0 where
  pub whole : length places ≡ length rows
  pub within : (r : ℕ) → r < length rows → slice_index places r < length (order rows)
  pub each : (r : ℕ) → r < length rows → slice_index (order rows) (slice_index places r) ≡ r
