-- Letters, digits, `_` and `-` stand in a string as they are.
use Rattle.std.proofs.Common.{◌≡◌, ap, ap₂, refl, nat_le, length, ℕ, ◌≤◌, Bool, true, false, ◌&&◌, List, [], ◌∷◌, ◌++◌, arith}
use Rattle.std.specs.List.{list_all}
use Rattle.std.proofs.lemmas.Bool.Decides.{nat_tests}
use Rattle.json.specs.Print.{escape, quoted}
use Rattle.json.proofs.Printed.Strings.{escape_byte_plain}
use Rattle.segment_shape.specs.Values.{is_id, is_id_byte}
use Rattle.segment_text.specs.Text.{is_plain}

two : (a b : Bool) → (a && b) ≡ true → (a ≡ true) × (b ≡ true)
two true b e = (refl, e)
two false b e = absurd (cc e)

no_quote : (b : ℕ) → is_id_byte b ≡ true → b ≡ 34 → ⊥
no_quote b h e = grind (arith, nat_tests, h, e)

no_slash : (b : ℕ) → is_id_byte b ≡ true → b ≡ 92 → ⊥
no_slash b h e = grind (arith, nat_tests, h, e)

no_control : (b : ℕ) → is_id_byte b ≡ true → 32 ≤ b
no_control b h = grind (arith, nat_tests, h)

escape_plain : (text : List ℕ) → is_plain text ≡ true → escape text ≡ text
escape_plain [] h = refl
escape_plain (b ∷ text) h =
    let both = two (is_id_byte b) (list_all is_id_byte text) h in
    ap₂ (λ (xs ys : List ℕ). xs ++ ys) (escape_byte_plain b (no_quote b both.0) (no_slash b both.0) (no_control b both.0)) (escape_plain text both.1)

-- between quotes it stands as it is
pub quoted_plain : (text : List ℕ) → is_plain text ≡ true → quoted text ≡ 34 ∷ (text ++ 34 ∷ [])
quoted_plain text h = ap (λ t. 34 ∷ (t ++ 34 ∷ [])) (escape_plain text h)

pub id_plain : (id : List ℕ) → is_id id ≡ true → is_plain id ≡ true
id_plain id h = (two (nat_le 1 (length id) && nat_le (length id) 16) (list_all is_id_byte id) h).1
