-- What a numeral parses to.
use Rattle.std.proofs.Common.{◌≡◌, ℕ, ◌<◌, ◌≤◌, ◌^◌, ◌&&◌, nat_le, true, false, Bool, List, length, None, Err, refl, arith, rules, inl, inr}
use Rattle.std.proofs.lemmas.Bool.{cases_lt}
use Rattle.std.proofs.lemmas.Bool.Decides.{nat_tests}
use Rattle.std.proofs.lemmas.Str.Parse.{IsNumeralModel, numerals_by_value, tells_all_ascii_digits, parse_digits}
use Rattle.std.specs.Str.{all_ascii_digits}
use Rattle.std.specs.Str.Parse.{ParsesUnsigned, digits_value}
use Rattle.dc_words.specs.CommandOfWords.{is_numeral, has_no_leading_zero, number_in}

own : IsNumeralModel (λ ds. all_ascii_digits ds ≡ true) (digits_value 10)
own = numerals_by_value _ tells_all_ascii_digits

first_true : (a b : Bool) → (a && b) ≡ true → a ≡ true
first_true true b h = refl
first_true false b h = h

second_true : (a b : Bool) → (a && b) ≡ true → b ≡ true
second_true true b h = h
second_true false b h = cc

some_bytes : (text : List ℕ) → has_no_leading_zero text ≡ true → 0 < length text
some_bytes text h = let e : nat_le 1 (length text) ≡ true = first_true (nat_le 1 (length text)) _ h in grind (arith, nat_tests)

and_false : (a : Bool) → (a && false) ≡ false
and_false true = refl
and_false false = refl

above : (k : ℕ) (text : List ℕ) → ((0 < length text) × (digits_value 10 text < 2 ^ k) → ⊥) → 0 < length text → 2 ^ k ≤ digits_value 10 text
above k text none some = elim (cases_lt (digits_value 10 text) (2 ^ k)) [ inl low ↦ absurd (none (some, low)) | inr high ↦ high ]

-- a numeral that does not parse lies above every bound in so many bits
pub too_large : {E : Type 0} (k : ℕ) (text : List ℕ) (e : E) (low high : ℕ) → is_numeral text ≡ true → ParsesUnsigned k 10 text (Err e) → high < 2 ^ k → number_in low high text ≡ None
too_large k text e low high n h small =
    let p = parse_digits own k text (Err e) h (first_true (all_ascii_digits text) (has_no_leading_zero text) n) in
    let a = above k text p (some_bytes text (second_true (all_ascii_digits text) (has_no_leading_zero text) n)) in
    let f : nat_le (digits_value 10 text) high ≡ false = outside (digits_value 10 text) high a small in
    rw (n, f, and_false) refl
  where
    outside : (v h : ℕ) → 2 ^ k ≤ v → h < 2 ^ k → nat_le v h ≡ false
    outside v h p q = let l : h < v = omega arith in search (rules, nat_tests)
