-- Losses, and their table.
use Rattle.std.proofs.Common.{◌≡◌, ◌⊎◌, inl, inr, ◌∙◌, sym, ap, subst, ℕ, zero, suc, ◌<◌, Bool, true, false, ◌||◌, ◌&&◌, List, [], ◌∷◌, ◌++◌, ◌*◌, ◌+◌, length, get_or, set, Option, Some, None, refl, arith}
use Rattle.std.specs.Prelude.{nat_eq, ◌==◌, is_some, option_map, if◌then◌else◌}
use Rattle.std.specs.List.{All, find, list_any}
use Rattle.std.specs.Option.{option_or}
use Rattle.std.proofs.lemmas.Bool.Decides.{nat_tests}
use Rattle.std.proofs.lemmas.Grind.{get_or-set_at}
use Rattle.std.proofs.lemmas.List.{get_or-set_other}
use Rattle.std.proofs.lemmas.List.Elements.{All-head, All-tail}
use Rattle.std.proofs.lemmas.List.Folds.{find-append}
use Rattle.loss_list.specs.Losses.{is_same_phase, is_loss_of, is_listed, loss_at}
use Rattle.loss_list.specs.LossTable.{IsNumber, IsTable, table_place}
use Rattle.loss_list.specs.declared.loss_row.Phase.{Phase}
use Rattle.loss_list.specs.declared.loss_row.Phase.TheVariants.{Commission, Drift}
use Rattle.loss_list.specs.declared.loss_row.LossRow.{LossRow}

neither : (a b : Bool) → (a || b) ≡ false → (a ≡ false) × (b ≡ false)
neither true b e = absurd (cc e)
neither false b e = (refl, e)

-- where a test finds nothing, it fails at each place
pub unlisted_at : {X : Type 0} (p : X → Bool) (xs : List X) (k : ℕ) (d : X) → list_any p xs ≡ false → k < length xs → p (get_or xs k d) ≡ false
unlisted_at p [] k d none low = absurd (omega (arith, low))
unlisted_at p (x ∷ xs) zero d none low = (neither (p x) (list_any p xs) none).0
unlisted_at p (x ∷ xs) (suc k) d none low = unlisted_at p xs k d (neither (p x) (list_any p xs) none).1 (omega (arith, low))

-- a frame is listed exactly where the slaves that it reaches are found
pub listed_by_loss : (rows : List LossRow) (phase : Phase) (number : ℕ) → is_some (loss_at rows phase number) ≡ is_listed phase number rows
listed_by_loss [] phase number = refl
listed_by_loss (r ∷ rows) phase number = by_test (is_loss_of phase number r) (listed_by_loss rows phase number)
  where
    by_test : (b : Bool) → is_some (loss_at rows phase number) ≡ is_listed phase number rows
        → is_some (option_map (λ r. r.after) (if b then Some r else find (is_loss_of phase number) rows)) ≡ (b || is_listed phase number rows)
    by_test true later = refl
    by_test false later = later

other_number : (b : Bool) (n number : ℕ) → IsNumber n → (IsNumber number → ⊥) → (b && n == number) ≡ false
other_number false n number is out = refl
other_number true n number is out = by_test (nat_eq n number) refl
  where
    by_test : (t : Bool) → nat_eq n number ≡ t → t ≡ false
    by_test false e = refl
    by_test true e = let same : n ≡ number = grind (arith, nat_tests, e) in absurd (out (subst IsNumber same is))

-- a number that none can have is not found
pub lost_nowhere : (rows : List LossRow) (phase : Phase) (number : ℕ) → All (λ r. IsNumber r.number) rows → (IsNumber number → ⊥) → loss_at rows phase number ≡ None
lost_nowhere [] phase number all out = refl
lost_nowhere (r ∷ rows) phase number all out =
    let other : is_loss_of phase number r ≡ false = other_number (is_same_phase r.phase phase) r.number number (All-head (λ r. IsNumber r.number) r rows all) out in
    rw other (lost_nowhere rows phase number (All-tail (λ r. IsNumber r.number) r rows all) out)

pub unlisted_outside : (rows : List LossRow) (phase : Phase) (number : ℕ) → All (λ r. IsNumber r.number) rows → (IsNumber number → ⊥) → is_listed phase number rows ≡ false
unlisted_outside rows phase number all out = sym (listed_by_loss rows phase number) ∙ ap is_some (lost_nowhere rows phase number all out)

-- one loss more
after_push : (o : Option LossRow) (b : Bool) (r : LossRow)
    → option_map (λ q. q.after) (option_or o (if b then Some r else None)) ≡ option_or (option_map (λ q. q.after) o) (if b then Some r.after else None)
after_push None true r = refl
after_push None false r = refl
after_push (Some q) b r = refl

loss_at_push : (rows : List LossRow) (r : LossRow) (phase : Phase) (number : ℕ)
    → loss_at (rows ++ r ∷ []) phase number ≡ option_or (loss_at rows phase number) (if is_loss_of phase number r then Some r.after else None)
loss_at_push rows r phase number =
    ap (option_map (λ q. q.after)) (find-append (is_loss_of phase number) rows (r ∷ [])) ∙ after_push (find (is_loss_of phase number) rows) (is_loss_of phase number r) r

or_none : (o : Option ℕ) → o ≡ option_or o None
or_none None = refl
or_none (Some n) = refl

-- no odd number is even
odd_even : (m n : ℕ) → 2 * n + 1 ≡ 2 * m → ⊥
odd_even zero n e = omega (arith, e)
odd_even (suc m) zero e = omega (arith, e)
odd_even (suc m) (suc n) e = odd_even m n (omega (arith, e))

-- two places are one, or the loss is another
places : (p q : Phase) (m n : ℕ)
    → ((table_place p m ≡ table_place q n) × ((is_same_phase p q && m == n) ≡ true)) ⊎ ((table_place q n ≡ table_place p m → ⊥) × ((is_same_phase p q && m == n) ≡ false))
places Commission Drift m n = inr (λ e. odd_even m n e, refl)
places Drift Commission m n = inr (λ e. odd_even n m (sym e), refl)
places Commission Commission m n = by_test (nat_eq m n) refl
  where
    by_test : (b : Bool) → nat_eq m n ≡ b → ((table_place Commission m ≡ table_place Commission n) × (nat_eq m n ≡ true)) ⊎ ((table_place Commission n ≡ table_place Commission m → ⊥) × (nat_eq m n ≡ false))
    by_test true e = let same : m ≡ n = grind (arith, nat_tests, e) in inl (ap (λ k. table_place Commission k) same, e)
    by_test false e = inr (λ same. let one : m ≡ n = omega (arith, same) in grind (arith, nat_tests, e, one), e)
places Drift Drift m n = by_test (nat_eq m n) refl
  where
    by_test : (b : Bool) → nat_eq m n ≡ b → ((table_place Drift m ≡ table_place Drift n) × (nat_eq m n ≡ true)) ⊎ ((table_place Drift n ≡ table_place Drift m → ⊥) × (nat_eq m n ≡ false))
    by_test true e = let same : m ≡ n = grind (arith, nat_tests, e) in inl (ap (λ k. table_place Drift k) same, e)
    by_test false e = inr (λ same. let one : m ≡ n = omega (arith, same) in grind (arith, nat_tests, e, one), e)

-- the table with one loss more
pub pushed_table : (rows : List LossRow) (r : LossRow) (table : List (Option ℕ)) (place : ℕ) (new : Option ℕ) → IsTable rows table → place ≡ table_place r.phase r.number → place < length table
    → new ≡ option_or (loss_at rows r.phase r.number) (Some r.after) → IsTable (rows ++ r ∷ []) (set table place new)
pushed_table rows r table place new kept at low e phase number = here (places r.phase phase r.number number)
  where
    here : ((table_place r.phase r.number ≡ table_place phase number) × (is_loss_of phase number r ≡ true)) ⊎ ((table_place phase number ≡ table_place r.phase r.number → ⊥) × (is_loss_of phase number r ≡ false))
        → get_or (set table place new) (table_place phase number) None ≡ loss_at (rows ++ r ∷ []) phase number
    here (inl one) =
        let whole : table_place phase number ≡ place = sym one.0 ∙ sym at in
        get_or-set_at table place (table_place phase number) new None whole low ∙ e
        ∙ ap (λ o. option_or o (Some r.after)) (sym (kept r.phase r.number) ∙ ap (λ k. get_or table k None) one.0 ∙ kept phase number)
        ∙ sym (loss_at_push rows r phase number ∙ ap (λ b. option_or (loss_at rows phase number) (if b then Some r.after else None)) one.1)
    here (inr other) =
        get_or-set_other table place (table_place phase number) new None (λ same. other.0 (same ∙ at)) ∙ kept phase number
        ∙ or_none (loss_at rows phase number)
        ∙ sym (loss_at_push rows r phase number ∙ ap (λ b. option_or (loss_at rows phase number) (if b then Some r.after else None)) other.1)
