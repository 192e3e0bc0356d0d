-- The list of the delays, one position after another.
use Rattle.std.specs.Prelude.{◌≡◌, ℕ, ◌+◌, ◌-◌, ◌/◌, ◌<◌, Bool, true, false, if◌then◌else◌, Option, Some, None, List, length, slice_index_or}
use Rattle.std.specs.List.{find}
use Rattle.std.proofs.Common.{arith, refl, ap, ◌∙◌}
use Rattle.std.proofs.lemmas.List.FromFn.{length-map-range_with_len, get_or-map-range_with_len}
use Rattle.cable_tree.specs.declared.port.Port.{Port}
use Rattle.cable_tree.specs.Row.{Row}
use Rattle.dc_delay.specs.MeasuredDelay.{ahead, back, delay, delay_from, delay_list}
use Rattle.dc_delay.specs.ShapeRows.{positions}

abbrev pub delay_if : List Row → (ℕ → Bool) → (ℕ → Bool) → (ℕ → Port → ℕ) → Option ℕ → ℕ → Option ℕ
delay_if rows measures timed laps reference r = if timed r then Some (delay_from rows measures laps reference r) else None

pub put_timed : (rows : List Row) (measures timed : ℕ → Bool) (laps : ℕ → Port → ℕ) (reference r a b c d : ℕ) → timed r ≡ true
    → a ≡ ahead rows measures laps r → b ≡ back rows measures laps r → c ≡ ahead rows measures laps reference → d ≡ back rows measures laps reference
    → Some (((a + d) - (b + c)) / 2) ≡ delay_if rows measures timed laps (Some reference) r
put_timed rows measures timed laps reference r a b c d is ea eb ec ed = rw (is, ea, eb, ec, ed) refl

pub put_other : (rows : List Row) (measures timed : ℕ → Bool) (laps : ℕ → Port → ℕ) (reference : Option ℕ) (r : ℕ) → timed r ≡ false
    → None ≡ delay_if rows measures timed laps reference r
put_other rows measures timed laps reference r is = rw is refl

-- what the list holds
module _ (rows : List Row) (measures timed : ℕ → Bool) (laps : ℕ → Port → ℕ) (n : ℕ) where
  pub listed : length (delay_list rows measures timed laps (positions n)) ≡ n
  listed = length-map-range_with_len (delay_if rows measures timed laps (find timed (positions n))) 0 n

  entry : (i : ℕ) (b : Bool) → i < n → timed i ≡ b → slice_index_or (delay_list rows measures timed laps (positions n)) i None
      ≡ (if b then Some (delay rows measures timed laps (positions n) i) else None)
  entry i b within is =
      get_or-map-range_with_len (delay_if rows measures timed laps (find timed (positions n))) 0 n i i None within (omega arith)
      ∙ ap (λ b. if b then Some (delay rows measures timed laps (positions n) i) else None) is

  pub timed_entry : (i : ℕ) → i < n → timed i ≡ true → slice_index_or (delay_list rows measures timed laps (positions n)) i None ≡ Some (delay rows measures timed laps (positions n) i)
  timed_entry i = entry i true

  pub other_entry : (i : ℕ) → i < n → timed i ≡ false → slice_index_or (delay_list rows measures timed laps (positions n)) i None ≡ None
  other_entry i = entry i false
