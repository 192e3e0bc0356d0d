-- The frames that are lost.
use Rattle.std.specs.Prelude.{ℕ, ◌&&◌, ◌==◌, Bool, true, false, List, Option, option_map}
use Rattle.std.specs.List.{find, list_any}
use Rattle.loss_list.specs.declared.loss_row.Phase.{Phase}
use Rattle.loss_list.specs.declared.loss_row.Phase.TheVariants.{Commission, Drift}
use Rattle.loss_list.specs.declared.loss_row.LossRow.{LossRow}

abbrev pub is_same_phase : Phase → Phase → Bool
is_same_phase Commission Commission = true
is_same_phase Commission Drift = false
is_same_phase Drift Commission = false
is_same_phase Drift Drift = true

-- the row is that of the frame of this number in this phase
abbrev pub is_loss_of : Phase → ℕ → LossRow → Bool
is_loss_of phase number r = is_same_phase r.phase phase && r.number == number

-- the frame of this number in this phase is lost
abbrev pub is_listed : Phase → ℕ → List LossRow → Bool
is_listed phase number rows = list_any (is_loss_of phase number) rows

-- how many slaves that frame reaches, where it is lost
abbrev pub loss_at : List LossRow → Phase → ℕ → Option ℕ
loss_at rows phase number = option_map (λ r. r.after) (find (is_loss_of phase number) rows)
