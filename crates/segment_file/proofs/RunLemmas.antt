-- Runs of lost frames.
use Rattle.std.specs.Prelude.{◌≡◌, ℕ, zero, suc, ◌+◌, ◌-◌, ◌<◌, ◌≤◌, Bool, true, false, List, [], ◌∷◌, Some, None, nat_eq, ◌==◌, ◌&&◌, if◌then◌else◌}
use Rattle.std.specs.List.{All, find, list_all, range_with_len}
use Rattle.std.proofs.Common.{arith, refl, subst}
use Rattle.std.proofs.lemmas.Bool.Decides.{nat_tests}
use Rattle.std.proofs.lemmas.List.Elements.{All-head, All-tail}
use Rattle.loss_list.specs.Losses.{is_same_phase, is_loss_of}
use Rattle.loss_list.specs.declared.loss_row.Phase.TheVariants.{Drift}
use Rattle.loss_list.specs.declared.loss_row.LossRow.{LossRow}
use Rattle.segment_file.specs.Runs.{is_lost, is_run, greatest_number}

pub greatest_number_is : greatest_number ≡ 100000
unfolding greatest_number
greatest_number_is = refl

range_step : (n m : ℕ) → n < m → range_with_len n (m - n) ≡ n ∷ range_with_len (n + 1) (m - (n + 1))
range_step n m h = let e : m - n ≡ suc (m - (n + 1)) = omega arith in rw e refl

-- the search for a number, one number on
pub find_here : (p : ℕ → Bool) (n m : ℕ) → n < m → p n ≡ true → find p (range_with_len n (m - n)) ≡ Some n
find_here p n m h is = rw (range_step n m h, is) refl

pub find_on : (p : ℕ → Bool) (n m : ℕ) → n < m → p n ≡ false → find p (range_with_len n (m - n)) ≡ find p (range_with_len (n + 1) (m - (n + 1)))
find_on p n m h other = rw (range_step n m h, other) refl

pub find_end : (p : ℕ → Bool) (n m : ℕ) → m ≤ n → find p (range_with_len n (m - n)) ≡ None
find_end p n m h = let e : m - n ≡ 0 = omega arith in rw e refl

-- a run, one number on
count_step : (a n k : ℕ) → k < n → range_with_len (a + k) (n - k) ≡ (a + k) ∷ range_with_len (a + (k + 1)) (n - (k + 1))
count_step a n k h =
    let e : n - k ≡ suc (n - (k + 1)) = omega arith in
    let f : (a + k) + 1 ≡ a + (k + 1) = omega arith in
    rw (e, ← f) refl

pub run_broken : (p : ℕ → Bool) (a n k : ℕ) → k < n → p (a + k) ≡ false → list_all p (range_with_len (a + k) (n - k)) ≡ false
run_broken p a n k h other = rw (count_step a n k h, other) refl

pub run_on : (p : ℕ → Bool) (a n k : ℕ) → k < n → p (a + k) ≡ true → list_all p (range_with_len (a + k) (n - k)) ≡ list_all p (range_with_len (a + (k + 1)) (n - (k + 1)))
run_on p a n k h is = rw (count_step a n k h, is) refl

pub run_whole : (p : ℕ → Bool) (a n k : ℕ) → n ≤ k → list_all p (range_with_len (a + k) (n - k)) ≡ true
run_whole p a n k h = let e : n - k ≡ 0 = omega arith in rw e refl

-- the search begins with number 1
pub whole_range : (p : ℕ → Bool) (n : ℕ) → find p (range_with_len 1 n) ≡ find p (range_with_len 1 ((n + 1) - 1))
whole_range p n = let e : (n + 1) - 1 ≡ n = omega arith in rw e refl

-- a search that finds nothing
pub find_none : (p : ℕ → Bool) (n k : ℕ) → ((x : ℕ) → n ≤ x → p x ≡ false) → find p (range_with_len n k) ≡ None
find_none p n zero none = refl
find_none p n (suc k) none = rw (none n (omega arith)) (find_none p (n + 1) k (λ x from. none x (omega (arith, from))))

other_number : (b : Bool) (m n : ℕ) → m < n → (b && m == n) ≡ false
other_number false m n lt = refl
other_number true m n lt = grind (arith, nat_tests, lt)

-- no frame above the greatest number is listed
unlisted_above : (losses : List LossRow) (last number : ℕ) → All (λ r. r.number ≤ last) losses → last < number → is_lost losses number ≡ false
unlisted_above [] last number all above = refl
unlisted_above (r ∷ losses) last number all above =
    let low : r.number ≤ last = All-head (λ r. r.number ≤ last) r losses all in
    let other : is_loss_of Drift number r ≡ false = other_number (is_same_phase r.phase Drift) r.number number (omega (arith, low, above)) in
    rw other (unlisted_above losses last number (All-tail (λ r. r.number ≤ last) r losses all) above)

-- so no run begins there, where not even an empty one is asked for
pub no_later_run : (losses : List LossRow) (count last n x : ℕ) → All (λ r. r.number ≤ last) losses → last < n → is_run losses count n ≡ false → n ≤ x
    → is_run losses count x ≡ false
no_later_run losses zero last n x all above none from = absurd (cc none)
no_later_run losses (suc count) last n x all above none from = rw (unlisted_above losses last x all (omega (arith, above, from))) refl

-- what a search did not find, no number of its range is
pub found_nowhere : (p : ℕ → Bool) (a n x : ℕ) → find p (range_with_len a n) ≡ None → a ≤ x → x < a + n → p x ≡ false
found_nowhere p a zero x e low high = absurd (omega (arith, low, high))
found_nowhere p a (suc n) x e low high = by_pass (p a) refl e (λ h less. found_nowhere p (a + 1) n x h (omega (arith, less)) (omega (arith, high)))
  where
    by_place : (b : Bool) → nat_eq a x ≡ b → p a ≡ false → (a < x → p x ≡ false) → p x ≡ false
    by_place true same is later = let eq : a ≡ x = grind (arith, nat_tests, same) in subst (λ y. p y ≡ false) eq is
    by_place false other is later = let less : a < x = grind (arith, nat_tests, other, low) in later less

    by_pass : (b : Bool) → p a ≡ b → (if b then Some a else find p (range_with_len (a + 1) n)) ≡ None → (find p (range_with_len (a + 1) n) ≡ None → a < x → p x ≡ false) → p x ≡ false
    by_pass true is h later = absurd cc
    by_pass false is h later = by_place (nat_eq a x) refl is (later h)

-- of numbers in a row that do not all pass, one does not
pub one_fails : (p : ℕ → Bool) (a n : ℕ) → list_all p (range_with_len a n) ≡ false → (x : ℕ) × (a ≤ x) × (x < a + n) × (p x ≡ false)
one_fails p a zero e = absurd cc
one_fails p a (suc n) e = by_pass (p a) refl e (one_fails p (a + 1) n)
  where
    by_pass : (b : Bool) → p a ≡ b → (b && list_all p (range_with_len (a + 1) n)) ≡ false
        → (list_all p (range_with_len (a + 1) n) ≡ false → (x : ℕ) × (a + 1 ≤ x) × (x < a + 1 + n) × (p x ≡ false)) → (x : ℕ) × (a ≤ x) × (x < a + suc n) × (p x ≡ false)
    by_pass false is h later = (a, omega arith, omega arith, is)
    by_pass true is h later = let more = later h in (more.0, omega (arith, more.1), omega (arith, more.2), more.3)
