-- How the frames that are lost are read.
use Rattle.std.specs.Prelude.{ℕ, List, [], codes, Option, Some, None, Ok, Err, option_and_then, if◌then◌else◌}
use Rattle.std.specs.Str.{bytes_eq}
use Rattle.serde_json.specs.Data.{Data}
use Rattle.serde_json.specs.Find.{get, as_str}
use Rattle.segment_shape.specs.Paths.{Reading, ◌>>=◌}
use Rattle.segment_shape.specs.Values.{or_fault, number_at, members_at}
use Rattle.segment_shape.specs.Keys.{only, loss_keys}
use Rattle.loss_list.specs.Losses.{is_listed}
use Rattle.loss_list.specs.declared.loss_row.Phase.{Phase}
use Rattle.loss_list.specs.declared.loss_row.Phase.TheVariants.{Commission, Drift}
use Rattle.loss_list.specs.declared.loss_row.LossRow.{LossRow}

unfoldable pub phase_named : List ℕ → Option Phase
phase_named text =
    if bytes_eq text (codes "commission") then Some Commission
    else (if bytes_eq text (codes "drift") then Some Drift else None)

abbrev pub phase_of : Data → Option Phase
phase_of d = option_and_then phase_named (option_and_then as_str (get (codes "phase") d))

abbrev pub phase_at : Data → Reading Phase
phase_at d = or_fault (codes "phase") (phase_of d)

-- a number that no earlier row of the phase has
abbrev pub unlisted : Phase → List LossRow → ℕ → Reading ℕ
unlisted phase rows number = if is_listed phase number rows then Err (codes "number") else Ok number

-- a loss row behind these, in a file of so many slave rows
unfoldable pub loss_in : ℕ → List LossRow → Data → Reading LossRow
loss_in slaves rows d = do
  ms ← members_at [] d
  phase ← phase_at d
  number ← number_at (codes "number") 1 100000 d
  number ← unlisted phase rows number
  after ← number_at (codes "after") 0 slaves d
  only [] loss_keys ms (record { phase = phase; number = number; after = after })
