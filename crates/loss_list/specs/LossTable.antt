-- A table of the losses, by phase and number.
use Rattle.std.specs.Prelude.{◌≡◌, ℕ, ◌+◌, ◌*◌, ◌≤◌, Option, None, List, slice_index_or}
use Rattle.loss_list.specs.Losses.{loss_at}
use Rattle.loss_list.specs.declared.loss_row.Phase.{Phase}
use Rattle.loss_list.specs.declared.loss_row.Phase.TheVariants.{Commission, Drift}
use Rattle.loss_list.specs.declared.loss_row.LossRow.{LossRow}

-- the greatest number of a lost frame
abbrev pub last_number : ℕ
last_number = 100000

-- the place of a number: the two phases take turns
abbrev pub table_place : Phase → ℕ → ℕ
table_place Commission number = 2 * number
table_place Drift number = 2 * number + 1

abbrev pub IsNumber : ℕ → Type 0
IsNumber number = (1 ≤ number) × (number ≤ last_number)

-- At the place of each number stands how many slaves the lost frame reaches, None where it is not lost.
-- Past the table's end none is lost.
abbrev pub IsTable : List LossRow → List (Option ℕ) → Type 0
IsTable rows table = (phase : Phase) (number : ℕ) → slice_index_or table (table_place phase number) None ≡ loss_at rows phase number
