-- What is wrong with rows that are no tree: the first kind of fault in this order, and its least row.
use Rattle.std.specs.Prelude.{◌≡◌, ℕ, ◌<◌, ◌≤◌, Some, List, length}
use Rattle.cable_tree.specs.declared.port.Above.{Above}
use Rattle.cable_tree.specs.declared.error.TreeError.{TreeError}
use Rattle.cable_tree.specs.declared.error.TreeError.TheVariants.{Empty, NoParent, TwoRoots, PortTaken, Cycle, NoMemory}
use Rattle.cable_tree.specs.Row.{Row, above}
use Rattle.cable_tree.specs.Segment.{IsRoot, LeadsToRoot}

-- the parent is not a row
abbrev pub IsOrphan : List Row → ℕ → Type 0
IsOrphan rows r = (a : Above) × (above rows r ≡ Some a) × (length rows ≤ a.row)

-- without a parent, as an earlier row
abbrev pub IsLaterRoot : List Row → ℕ → Type 0
IsLaterRoot rows r = IsRoot rows r × ((q : ℕ) × (q < r) × IsRoot rows q)

-- the parent and port are those of an earlier row
abbrev pub IsDoubled : List Row → ℕ → Type 0
IsDoubled rows r = (a : Above) × (above rows r ≡ Some a) × ((q : ℕ) × (q < r) × (above rows q ≡ Some a))

-- the parents never lead to a root
abbrev pub IsCyclic : List Row → ℕ → Type 0
IsCyclic rows r = ¬ LeadsToRoot rows (length rows) r

-- no row has the fault
abbrev pub IsFree : List Row → (ℕ → Type 0) → Type 0
IsFree rows fault = (r : ℕ) → r < length rows → ¬ fault r

-- the least row that has it
pub record IsLeast (rows : List Row) (fault : ℕ → Type 0) (r : ℕ) : Type 0 where
  pub within : r < length rows
  pub here : fault r
  pub least : (q : ℕ) → q < r → ¬ fault q

abbrev pub IsRefused : List Row → TreeError → Type 0
IsRefused rows Empty = length rows ≡ 0
IsRefused rows (NoParent r) = IsLeast rows (IsOrphan rows) r
IsRefused rows (TwoRoots r) = IsFree rows (IsOrphan rows) × IsLeast rows (IsLaterRoot rows) r
IsRefused rows (PortTaken r) =
    IsFree rows (IsOrphan rows) × IsFree rows (IsLaterRoot rows) × IsLeast rows (IsDoubled rows) r
IsRefused rows (Cycle r) =
    IsFree rows (IsOrphan rows) × IsFree rows (IsLaterRoot rows) × IsFree rows (IsDoubled rows) × IsLeast rows (IsCyclic rows) r
-- want of memory is no fault of the rows
IsRefused rows NoMemory = ⊥

-- what may be answered: a refusal, or want of memory at any time
abbrev pub MayAnswer : List Row → TreeError → Type 0
MayAnswer rows NoMemory = Unit {0}
MayAnswer rows e = IsRefused rows e
