-- Lines of hexadecimal digits.
use Rattle.std.proofs.Common.{◌≡◌, ◌≢◌, sym, ap, ◌∙◌, ℕ, ◌%◌, Bool, true, false, not, List, [], ◌∷◌, length, Option, Some, None, unwrap_or, Ok, refl, inl, inr, arith}
use Rattle.std.specs.Char.{is_ascii_hexdigit}
use Rattle.std.specs.List.{All}
use Rattle.std.proofs.lemmas.Bool.{cases_eq}
use Rattle.std.proofs.lemmas.Bool.Decides.{nat_tests}
use Rattle.std.proofs.lemmas.List.Elements.{All-nil, All-cons, All-head, All-tail}
use Rattle.std.proofs.lemmas.Option.{none-some}
use Rattle.hex.specs.Hex.{decode_of, is_hex_digit}
use Rattle.hex.proofs.HexLemmas.{decode_of-ok, decode_of-digits}
use Rattle.dc_show.specs.Shown.{first_other, IsLineFault}
use Rattle.dc_show.specs.declared.error.FrameFault.TheVariants.{Hex}
use Rattle.dc_show.proofs.Passing.{none_parts, none_cons}

abbrev is_other : ℕ → Bool
is_other b = not (is_ascii_hexdigit b)

abbrev IsDigit : ℕ → Type 0
IsDigit b = is_hex_digit b ≡ true

-- both tests are of the same digits
same_digits : (b : ℕ) → is_ascii_hexdigit b ≡ is_hex_digit b
same_digits b = grind (arith, nat_tests)

was_not : (x : Bool) → not x ≡ false → x ≡ true
was_not true e = refl
was_not false e = cc

all_digits : (line : List ℕ) → first_other line ≡ None → All IsDigit line
all_digits [] e = All-nil IsDigit
all_digits (b ∷ line) e =
    let parts = none_parts is_other b line e in
    All-cons IsDigit b line (sym (same_digits b) ∙ was_not (is_ascii_hexdigit b) parts.0) (all_digits line parts.1)

no_other : (line : List ℕ) → All IsDigit line → first_other line ≡ None
no_other [] all = refl
no_other (b ∷ line) all =
    none_cons is_other b line (ap not (same_digits b ∙ All-head IsDigit b line all)) (no_other line (All-tail IsDigit b line all))

-- digits that are no bytes are of odd number
pub odd_length : (line : List ℕ) → first_other line ≡ None → ((bytes : List ℕ) → decode_of line ≢ Ok bytes) → length line % 2 ≡ 1
odd_length line digits none =
    elim (cases_eq (length line % 2) 1) [
      | inl odd ↦ odd
      | inr even ↦ let whole = decode_of-digits line (omega arith) (all_digits line digits) in absurd (none whole.0 whole.1)
    ]

-- a line of bytes has no fault of its digits
pub bytes_no_fault : (line bytes : List ℕ) (n : ℕ) → decode_of line ≡ Ok bytes → IsLineFault line (Hex n) → ⊥
bytes_no_fault line bytes n e (inl other) = none-some n (sym (no_other line (decode_of-ok line bytes e).1) ∙ other)
bytes_no_fault line bytes n e (inr odd) = let even = (decode_of-ok line bytes e).0 in let is = odd.odd in omega arith

-- the place of the first other character, or else the number of the digits
pub hex_fault : (line : List ℕ) (place : Option ℕ) (n : ℕ) → place ≡ first_other line → n ≡ unwrap_or place (length line) → ((bytes : List ℕ) → decode_of line ≢ Ok bytes) → IsLineFault line (Hex n)
hex_fault line (Some k) n is e none = inl (sym is ∙ ap (λ i. Some i) (sym e))
hex_fault line None n is e none = inr (record { digits = sym is; odd = odd_length line (sym is) none; all = e })
