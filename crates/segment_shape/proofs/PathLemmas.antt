-- How long the parts of a path are.
use Rattle.std.proofs.Common.{◌≡◌, ℕ, ◌+◌, ◌^◌, ◌<◌, ◌≤◌, List, ◌∷◌, ◌++◌, length, arith, refl}
use Rattle.std.proofs.lemmas.List.{length-append}
use Rattle.std.proofs.lemmas.Fmt.{length-decimal-le}
use Rattle.std.specs.Fmt.{decimal}
use Rattle.std.specs.Prelude.{codes}
use Rattle.segment_shape.specs.KeyNames.{name_of}
use Rattle.segment_shape.specs.Paths.{element, dotted}
use Rattle.segment_shape.specs.declared.key.Key.{Key}

pub name_short : (key : Key) → length (name_of key) ≤ 9
name_short key = grind arith

pub dotted_name : (key : Key) → dotted (name_of key) ≡ codes "." ++ name_of key
unfolding dotted
dotted_name key = grind arith

pub dotted_element : (b : ℕ) (name : List ℕ) (i : ℕ) (path : List ℕ) → dotted (element (b ∷ name) i ++ path) ≡ codes "." ++ element (b ∷ name) i ++ path
unfolding element dotted
dotted_element b name i path = refl

element_short : (name : List ℕ) (i k : ℕ) → 0 < k → i < 10 ^ k → i < 2 ^ 64 → length (element name i) ≤ length name + k + 2
unfolding element
element_short name i k some few fits =
    let digits : length (decimal i) ≤ k = length-decimal-le k i some few fits in
    simp length-append (omega arith)

pub element_short_u8 : (name : List ℕ) (i : ℕ) → i < 256 → length (element name i) ≤ length name + 5
element_short_u8 name i h = omega (arith, element_short name i 3 (omega arith) (omega arith) (omega arith))

pub element_short_u16 : (name : List ℕ) (i : ℕ) → i < 65536 → length (element name i) ≤ length name + 7
element_short_u16 name i h = omega (arith, element_short name i 5 (omega arith) (omega arith) (omega arith))
