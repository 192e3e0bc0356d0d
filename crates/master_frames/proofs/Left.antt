-- The positions that are left of those that a flag marks.
use Rattle.std.proofs.Common.{◌≡◌, ℕ, suc, ◌+◌, ◌-◌, ◌<◌, ◌≤◌, Bool, true, false, List, [], ◌∷◌, map, filter, length, slice_index_or, refl, ap, arith}
use Rattle.std.specs.List.{range_with_len}
use Rattle.std.proofs.Math.ListN.{get_or-map}
use Rattle.dc_bounds.specs.Weight.{flag}
use Rattle.master_script.specs.Slaves.{SlaveWords}

-- the marked positions from k on
abbrev pub left : (ℕ → Bool) → ℕ → ℕ → List ℕ
left flags n k = filter flags (range_with_len k (n - k))

next : (n k : ℕ) → k < n → range_with_len k (n - k) ≡ k ∷ range_with_len (k + 1) (n - (k + 1))
next n k h = let e : n - k ≡ suc (n - (k + 1)) = omega arith in rw e refl

pub left_yes : (flags : ℕ → Bool) (n k : ℕ) → k < n → flags k ≡ true → left flags n k ≡ k ∷ left flags n (k + 1)
left_yes flags n k h is = rw (next n k h, is) refl

pub left_no : (flags : ℕ → Bool) (n k : ℕ) → k < n → flags k ≡ false → left flags n k ≡ left flags n (k + 1)
left_no flags n k h is = rw (next n k h, is) refl

pub left_end : (flags : ℕ → Bool) (n k : ℕ) → n ≤ k → left flags n k ≡ []
left_end flags n k h = let e : n - k ≡ 0 = omega arith in rw e refl

pub length_yes : (flags : ℕ → Bool) (n k : ℕ) → k < n → flags k ≡ true → length (left flags n k) ≡ length (left flags n (k + 1)) + 1
length_yes flags n k h is = let e = ap (λ (xs : List ℕ). length xs) (left_yes flags n k h is) in omega (arith, e)

-- the flag of a slave
pub flag_at : (test : SlaveWords → Bool) (ss : List SlaveWords) (p : ℕ) → test (record { features = 0; status = 0; fourth = 0 }) ≡ false
    → flag (map test ss) p ≡ test (slice_index_or ss p (record { features = 0; status = 0; fourth = 0 }))
flag_at test ss p e = rw (← e) (get_or-map test ss p (record { features = 0; status = 0; fourth = 0 }))
