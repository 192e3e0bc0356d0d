-- When rows are a tree of slaves, by their parents alone.
use Rattle.std.specs.Prelude.{◌≡◌, ℕ, zero, suc, ◌<◌, ◌≤◌, Some, None, MatchOption, List, length}
use Rattle.std.specs.List.{All}
use Rattle.cable_tree.specs.declared.port.Above.{Above}
use Rattle.cable_tree.specs.Row.{Row, IsRow, above}

-- of the row, its parent, that one's parent and so on, at most so many of them, one has no parent
-- (n steps are enough among n rows: a longer way passes a row twice, and so never ends)
unfoldable pub LeadsToRoot : List Row → ℕ → ℕ → Type 0
LeadsToRoot rows zero r = ⊥
LeadsToRoot rows (suc steps) r = MatchOption (above rows r) (Unit {0}) (λ a. LeadsToRoot rows steps a.row)

-- no parent
abbrev pub IsRoot : List Row → ℕ → Type 0
IsRoot rows r = above rows r ≡ None

pub record IsTree (rows : List Row) : Type 0 where
  -- there are rows
  pub some : 0 < length rows
  -- each parent is a row
  pub parents : (r : ℕ) (a : Above) → r < length rows → above rows r ≡ Some a → a.row < length rows
  -- exactly one row has no parent
  pub root : (r : ℕ) × (r < length rows) × IsRoot rows r
  pub one_root : (q r : ℕ) → q < length rows → r < length rows → IsRoot rows q → IsRoot rows r → q ≡ r
  -- no two rows share parent and port
  pub ports : (q r : ℕ) (a : Above) → q < length rows → r < length rows → above rows q ≡ Some a → above rows r ≡ Some a → q ≡ r
  -- from every row the parents lead to a root
  pub leads : (r : ℕ) → r < length rows → LeadsToRoot rows (length rows) r

-- a segment: a tree of at most 256 slaves, each within the limits of a row
pub record IsSegment (rows : List Row) : Type 0 where
  pub tree : IsTree rows
  pub slaves : All IsRow rows
  pub few : length rows ≤ 256
