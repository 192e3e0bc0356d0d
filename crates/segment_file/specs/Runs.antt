-- Drift frames that are listed as lost in a row.
use Rattle.std.specs.Prelude.{ℕ, Bool, Option, List}
use Rattle.std.specs.List.{find, list_all, range_with_len}
use Rattle.loss_list.specs.Losses.{is_listed}
use Rattle.loss_list.specs.LossTable.{last_number}
use Rattle.loss_list.specs.declared.loss_row.Phase.TheVariants.{Drift}
use Rattle.loss_list.specs.declared.loss_row.LossRow.{LossRow}

-- the drift frame of this number is listed as lost
abbrev pub is_lost : List LossRow → ℕ → Bool
is_lost losses number = is_listed Drift number losses

-- so many drift frames are listed from this number on
abbrev pub is_run : List LossRow → ℕ → ℕ → Bool
is_run losses count number = list_all (is_lost losses) (range_with_len number count)

-- the greatest number of a lost frame, kept shut
unfoldable pub greatest_number : ℕ
greatest_number = last_number

-- the first number from which on so many are lost
abbrev pub first_run : List LossRow → ℕ → Option ℕ
first_run losses count = find (is_run losses count) (range_with_len 1 greatest_number)
