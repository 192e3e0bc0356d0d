-- One step up.
use Rattle.std.specs.Prelude.{◌≡◌, ℕ, suc, ◌+◌, ◌-◌, ◌<◌, ◌≤◌, Bool, true, false, ◌||◌, nat_eq, if◌then◌else◌, Some, None, List, length}
use Rattle.std.proofs.Common.{arith, rules, refl, sym, ◌∙◌, inl, inr}
use Rattle.std.proofs.lemmas.Bool.{cases_lt, false≢true}
use Rattle.std.proofs.lemmas.List.{get_or_past}
use Rattle.std.proofs.lemmas.Bool.Decides.{nat_tests}
use Rattle.cable_tree.specs.declared.port.Above.{Above}
use Rattle.cable_tree.specs.Row.{Row, above}
use Rattle.dc_bounds.specs.Weight.{flag, measuring_step, measuring_within, measuring_parent, hop_weight, hops_step, hops_within, is_over_step, is_over, is_over_within, meeting_step, meeting_within}

pub measuring_next : (rows : List Row) (measures : ℕ → Bool) (n k r : ℕ) → k < n
    → measuring_within rows measures (n - k) r ≡ measuring_step measures (measuring_within rows measures (n - (k + 1))) (above rows r)
unfolding measuring_within
measuring_next rows measures n k r h = let e : n - k ≡ suc (n - (k + 1)) = omega arith in rw e refl

pub measuring_end : (rows : List Row) (measures : ℕ → Bool) (n k r : ℕ) → n ≤ k → measuring_within rows measures (n - k) r ≡ None
unfolding measuring_within
measuring_end rows measures n k r h = let e : n - k ≡ 0 = omega arith in rw e refl

-- the three ends of a step
pub measuring_root : (rows : List Row) (measures : ℕ → Bool) (n k r : ℕ) → k < n → above rows r ≡ None → measuring_within rows measures (n - k) r ≡ None
measuring_root rows measures n k r h root = measuring_next rows measures n k r h ∙ rw root refl

pub measuring_here : (rows : List Row) (measures : ℕ → Bool) (n k r : ℕ) (a : Above) → k < n → above rows r ≡ Some a → measures a.row ≡ true
    → measuring_within rows measures (n - k) r ≡ Some a
measuring_here rows measures n k r a h up measured = measuring_next rows measures n k r h ∙ rw (up, measured) refl

pub measuring_higher : (rows : List Row) (measures : ℕ → Bool) (n k r : ℕ) (a : Above) → k < n → above rows r ≡ Some a → measures a.row ≡ false
    → measuring_within rows measures (n - k) r ≡ measuring_within rows measures (n - (k + 1)) a.row
measuring_higher rows measures n k r a h up not_measured = measuring_next rows measures n k r h ∙ rw (up, not_measured) refl

-- only a slave that is there measures
pub flag_within : (flags : List Bool) (r : ℕ) → flag flags r ≡ true → r < length flags
flag_within flags r is =
    elim (cases_lt r (length flags)) [
      | inl lt ↦ lt
      | inr le ↦ absurd (false≢true (sym (get_or_past flags r false le) ∙ is))
    ]

hops_next : (rows : List Row) (measures : ℕ → Bool) (c n k r : ℕ) → k < n
    → hops_within rows measures c (n - k) r ≡ (if nat_eq r c then 0 else hops_step rows (hops_within rows measures c (n - (k + 1))) (measuring_parent rows measures r))
unfolding hops_within
hops_next rows measures c n k r h = let e : n - k ≡ suc (n - (k + 1)) = omega arith in rw e refl

pub hops_end : (rows : List Row) (measures : ℕ → Bool) (c n k r : ℕ) → n ≤ k → hops_within rows measures c (n - k) r ≡ 0
unfolding hops_within
hops_end rows measures c n k r h = let e : n - k ≡ 0 = omega arith in rw e refl

pub hops_here : (rows : List Row) (measures : ℕ → Bool) (c n k r : ℕ) → k < n → r ≡ c → hops_within rows measures c (n - k) r ≡ 0
hops_here rows measures c n k r h at = let same : nat_eq r c ≡ true = search (rules, nat_tests) in hops_next rows measures c n k r h ∙ rw same refl

pub hops_top : (rows : List Row) (measures : ℕ → Bool) (c n k r : ℕ) → k < n → ¬ (r ≡ c) → measuring_parent rows measures r ≡ None → hops_within rows measures c (n - k) r ≡ 0
hops_top rows measures c n k r h away top = let other : nat_eq r c ≡ false = search (rules, nat_tests) in hops_next rows measures c n k r h ∙ rw (other, top) refl

pub hops_higher : (rows : List Row) (measures : ℕ → Bool) (c n k r : ℕ) (a : Above) → k < n → ¬ (r ≡ c) → measuring_parent rows measures r ≡ Some a
    → hops_within rows measures c (n - k) r ≡ hop_weight rows a + hops_within rows measures c (n - (k + 1)) a.row
hops_higher rows measures c n k r a h away up = let other : nat_eq r c ≡ false = search (rules, nat_tests) in hops_next rows measures c n k r h ∙ rw (other, up) refl

over_next : (rows : List Row) (measures : ℕ → Bool) (c n k r : ℕ) → k < n
    → is_over_within rows measures c (n - k) r ≡ (nat_eq r c || is_over_step (is_over_within rows measures c (n - (k + 1))) (measuring_parent rows measures r))
unfolding is_over_within
over_next rows measures c n k r h = let e : n - k ≡ suc (n - (k + 1)) = omega arith in rw e refl

pub over_end : (rows : List Row) (measures : ℕ → Bool) (c n k r : ℕ) → n ≤ k → is_over_within rows measures c (n - k) r ≡ false
unfolding is_over_within
over_end rows measures c n k r h = let e : n - k ≡ 0 = omega arith in rw e refl

pub over_here : (rows : List Row) (measures : ℕ → Bool) (c n k r : ℕ) → k < n → r ≡ c → is_over_within rows measures c (n - k) r ≡ true
over_here rows measures c n k r h at = let same : nat_eq r c ≡ true = search (rules, nat_tests) in over_next rows measures c n k r h ∙ rw same refl

pub over_top : (rows : List Row) (measures : ℕ → Bool) (c n k r : ℕ) → k < n → ¬ (r ≡ c) → measuring_parent rows measures r ≡ None → is_over_within rows measures c (n - k) r ≡ false
over_top rows measures c n k r h away top = let other : nat_eq r c ≡ false = search (rules, nat_tests) in over_next rows measures c n k r h ∙ rw (other, top) refl

pub over_higher : (rows : List Row) (measures : ℕ → Bool) (c n k r : ℕ) (a : Above) → k < n → ¬ (r ≡ c) → measuring_parent rows measures r ≡ Some a
    → is_over_within rows measures c (n - k) r ≡ is_over_within rows measures c (n - (k + 1)) a.row
over_higher rows measures c n k r a h away up = let other : nat_eq r c ≡ false = search (rules, nat_tests) in over_next rows measures c n k r h ∙ rw (other, up) refl

meeting_next : (rows : List Row) (measures : ℕ → Bool) (reference n k r : ℕ) → k < n
    → meeting_within rows measures reference (n - k) r ≡ (if is_over rows measures r reference then r else meeting_step r (meeting_within rows measures reference (n - (k + 1))) (measuring_parent rows measures r))
unfolding meeting_within
meeting_next rows measures reference n k r h = let e : n - k ≡ suc (n - (k + 1)) = omega arith in rw e refl

pub meeting_end : (rows : List Row) (measures : ℕ → Bool) (reference n k r : ℕ) → n ≤ k → meeting_within rows measures reference (n - k) r ≡ r
unfolding meeting_within
meeting_end rows measures reference n k r h = let e : n - k ≡ 0 = omega arith in rw e refl

pub meeting_here : (rows : List Row) (measures : ℕ → Bool) (reference n k r : ℕ) → k < n → is_over rows measures r reference ≡ true → meeting_within rows measures reference (n - k) r ≡ r
meeting_here rows measures reference n k r h over = meeting_next rows measures reference n k r h ∙ rw over refl

pub meeting_top : (rows : List Row) (measures : ℕ → Bool) (reference n k r : ℕ) → k < n → is_over rows measures r reference ≡ false → measuring_parent rows measures r ≡ None
    → meeting_within rows measures reference (n - k) r ≡ r
meeting_top rows measures reference n k r h under top = meeting_next rows measures reference n k r h ∙ rw (under, top) refl

pub meeting_higher : (rows : List Row) (measures : ℕ → Bool) (reference n k r : ℕ) (a : Above) → k < n → is_over rows measures r reference ≡ false → measuring_parent rows measures r ≡ Some a
    → meeting_within rows measures reference (n - k) r ≡ meeting_within rows measures reference (n - (k + 1)) a.row
meeting_higher rows measures reference n k r a h under up = meeting_next rows measures reference n k r h ∙ rw (under, up) refl
