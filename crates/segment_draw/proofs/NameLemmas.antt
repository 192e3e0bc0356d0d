-- The ids of drawn segments are ids, and no two are alike.
use Rattle.std.proofs.Common.{◌≡◌, ◌∙◌, ap, ap₂, refl, sym, ℕ, zero, suc, ◌+◌, ◌<◌, ◌≤◌, ◌⊎◌, inl, inr, Bool, true, false, ◌&&◌, List, [], ◌∷◌, ◌++◌, length, drop, get_or, None, append_assoc, arith}
use Rattle.std.specs.Fmt.{digits}
use Rattle.std.specs.List.{list_any}
use Rattle.std.specs.Str.{bytes_eq}
use Rattle.std.proofs.lemmas.Bool.{cases_eq}
use Rattle.std.proofs.lemmas.Fmt.{decimal_injective}
use Rattle.std.proofs.lemmas.List.{length-append, get_or_append_left}
use Rattle.std.proofs.lemmas.List.Folds.{list_any_none}
use Rattle.std.proofs.lemmas.Slice.Eq.{bytes_eq-Decides}
use Rattle.std.proofs.Math.Seq.{get_or-append_seam}
use Rattle.segment_shape.specs.Values.{is_id}
use Rattle.segment_shape.specs.Twice.{first_again}
use Rattle.segment_draw.specs.Generated.{name}

abbrev are_ids_below : ℕ → Bool
are_ids_below zero = true
are_ids_below (suc n) = is_id (name n) && are_ids_below n

both : (a b : Bool) → (a && b) ≡ true → (a ≡ true) × (b ≡ true)
both true b e = (refl, e)
both false b e = absurd (cc e)

below : (n k : ℕ) → are_ids_below n ≡ true → k < n → is_id (name k) ≡ true
below zero k all low = absurd (omega arith)
below (suc n) k all low = by_place (cases_eq k n) (below n k (both (is_id (name n)) (are_ids_below n) all).1)
  where
    by_place : (k ≡ n) ⊎ (k ≡ n → ⊥) → (k < n → is_id (name k) ≡ true) → is_id (name k) ≡ true
    by_place (inl same) earlier = ap (λ (j : ℕ). is_id (name j)) same ∙ (both (is_id (name n)) (are_ids_below n) all).0
    by_place (inr other) earlier = earlier (omega arith)

all_ids : are_ids_below 256 ≡ true
unfolding digits
all_ids = refl

pub name_is_id : (k : ℕ) → k < 256 → is_id (name k) ≡ true
name_is_id k low = below 256 k all_ids low

not_true : (b : Bool) → (b ≡ true → ⊥) → b ≡ false
not_true true h = absurd (h refl)
not_true false h = refl

same_read : (xs : List (List ℕ)) (j : ℕ) (d : List ℕ) → j < length xs → get_or xs j d ≡ get_or xs j []
same_read [] j d low = absurd (omega (arith, low))
same_read (x ∷ xs) zero d low = refl
same_read (x ∷ xs) (suc j) d low = same_read xs j d (omega (arith, low))

names_apart : (m n : ℕ) → m < 256 → n < 256 → (m ≡ n → ⊥) → bytes_eq (name m) (name n) ≡ false
names_apart m n few some other =
    not_true (bytes_eq (name m) (name n)) (λ e. other (decimal_injective m n (omega arith) (omega arith) (ap (drop 1) ((bytes_eq-Decides (name m) (name n)).0 e))))

pub names_once : (earlier ids : List (List ℕ)) → length earlier + length ids ≤ 256
    → ((k : ℕ) → k < length earlier + length ids → get_or (earlier ++ ids) k [] ≡ name k) → first_again earlier ids ≡ None
unfolding first_again
names_once earlier [] few are = refl
names_once earlier (x ∷ xs) few are =
    let n = length earlier in
    let here : x ≡ name n = sym (get_or-append_seam earlier x xs []) ∙ are n (omega arith) in
    let none : list_any (bytes_eq x) earlier ≡ false = list_any_none (bytes_eq x) earlier (λ j d low.
    let there : get_or earlier j d ≡ name j = same_read earlier j d low ∙ sym (get_or_append_left earlier (x ∷ xs) [] j low) ∙ are j (omega arith) in
    ap₂ (λ (a b : List ℕ). bytes_eq a b) here there ∙ names_apart n j (omega arith) (omega arith) (λ e. omega arith)) in
    let later = names_once (earlier ++ x ∷ []) xs (omega (arith, few, length-append earlier (x ∷ [])))
    (λ k low. ap (λ (l : List (List ℕ)). get_or l k []) (append_assoc earlier (x ∷ []) xs) ∙ are k (omega (arith, low, length-append earlier (x ∷ [])))) in
    rw none later
