-- One step up.
use Rattle.std.specs.Prelude.{◌≡◌, ℕ, suc, ◌+◌, ◌-◌, ◌<◌, ◌≤◌, Bool, true, false, Some, None, List}
use Rattle.std.proofs.Common.{arith, refl, ◌∙◌}
use Rattle.cable_tree.specs.declared.port.Above.{Above}
use Rattle.cable_tree.specs.Row.{Row, above}
use Rattle.dc_bounds.specs.Weight.{measuring_parent}
use Rattle.dc_delay.specs.MeasuredDelay.{passed_step, passed_within, summed_step, summed_within}

passed_next : (rows : List Row) (measures : ℕ → Bool) (number : ℕ → ℕ) (n k r : ℕ) → k < n
    → passed_within rows measures number (n - k) r ≡ passed_step measures number (passed_within rows measures number (n - (k + 1))) (above rows r)
unfolding passed_within
passed_next rows measures number n k r h = let e : n - k ≡ suc (n - (k + 1)) = omega arith in rw e refl

pub passed_end : (rows : List Row) (measures : ℕ → Bool) (number : ℕ → ℕ) (n k r : ℕ) → n ≤ k → passed_within rows measures number (n - k) r ≡ 0
unfolding passed_within
passed_end rows measures number n k r h = let e : n - k ≡ 0 = omega arith in rw e refl

pub passed_root : (rows : List Row) (measures : ℕ → Bool) (number : ℕ → ℕ) (n k r : ℕ) → k < n → above rows r ≡ None → passed_within rows measures number (n - k) r ≡ 0
passed_root rows measures number n k r h root = passed_next rows measures number n k r h ∙ rw root refl

pub passed_here : (rows : List Row) (measures : ℕ → Bool) (number : ℕ → ℕ) (n k r : ℕ) (a : Above) → k < n → above rows r ≡ Some a → measures a.row ≡ true
    → passed_within rows measures number (n - k) r ≡ 0
passed_here rows measures number n k r a h up measured = passed_next rows measures number n k r h ∙ rw (up, measured) refl

pub passed_higher : (rows : List Row) (measures : ℕ → Bool) (number : ℕ → ℕ) (n k r : ℕ) (a : Above) → k < n → above rows r ≡ Some a → measures a.row ≡ false
    → passed_within rows measures number (n - k) r ≡ number a.row + passed_within rows measures number (n - (k + 1)) a.row
passed_higher rows measures number n k r a h up not_measured = passed_next rows measures number n k r h ∙ rw (up, not_measured) refl

summed_next : (rows : List Row) (measures : ℕ → Bool) (number : Above → ℕ → ℕ) (n k r : ℕ) → k < n
    → summed_within rows measures number (n - k) r ≡ summed_step number r (summed_within rows measures number (n - (k + 1))) (measuring_parent rows measures r)
unfolding summed_within
summed_next rows measures number n k r h = let e : n - k ≡ suc (n - (k + 1)) = omega arith in rw e refl

pub summed_end : (rows : List Row) (measures : ℕ → Bool) (number : Above → ℕ → ℕ) (n k r : ℕ) → n ≤ k → summed_within rows measures number (n - k) r ≡ 0
unfolding summed_within
summed_end rows measures number n k r h = let e : n - k ≡ 0 = omega arith in rw e refl

pub summed_top : (rows : List Row) (measures : ℕ → Bool) (number : Above → ℕ → ℕ) (n k r : ℕ) → k < n → measuring_parent rows measures r ≡ None → summed_within rows measures number (n - k) r ≡ 0
summed_top rows measures number n k r h top = summed_next rows measures number n k r h ∙ rw top refl

pub summed_higher : (rows : List Row) (measures : ℕ → Bool) (number : Above → ℕ → ℕ) (n k r : ℕ) (a : Above) → k < n → measuring_parent rows measures r ≡ Some a
    → summed_within rows measures number (n - k) r ≡ summed_within rows measures number (n - (k + 1)) a.row + number a r
summed_higher rows measures number n k r a h up = summed_next rows measures number n k r h ∙ rw up refl
