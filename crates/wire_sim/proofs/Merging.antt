-- Bytes that are merged one by one.
use Rattle.std.proofs.Common.{◌≡◌, ℕ, zero, suc, ◌+◌, ◌<◌, ◌≤◌, List, [], ◌∷◌, ◌++◌, length, take, drop, set, get_or, bit_or, refl, ap, ◌∙◌, arith, append_assoc}
use Rattle.std.proofs.lemmas.List.{take_more_set, drop-set-lt, drop_more, take-append-drop}
use Rattle.frame_pass.specs.DatagramAtSlave.{merged}

merged_step : (xs ys : List ℕ) (i : ℕ) → i < length xs → i < length ys
    → merged (drop i xs) (drop i ys) ≡ bit_or (get_or xs i 0) (get_or ys i 0) ∷ merged (drop (i + 1) xs) (drop (i + 1) ys)
unfolding merged
merged_step xs ys i h g = rw (drop_more xs i 0 h, drop_more ys i 0 g) refl

-- one byte more
pub merged_more : (xs ys : List ℕ) (i x : ℕ) → i < length xs → i < length ys → x ≡ bit_or (get_or xs i 0) (get_or ys i 0)
    → take (i + 1) (set ys i x) ++ merged (drop (i + 1) xs) (drop (i + 1) (set ys i x)) ≡ take i ys ++ merged (drop i xs) (drop i ys)
merged_more xs ys i x h g e =
    rw (take_more_set ys i x g, drop-set-lt (i + 1) ys i x (omega arith), merged_step xs ys i h g, e) (append_assoc (take i ys) _ _)

none_left : (ys : List ℕ) (i : ℕ) → length ys ≤ i → drop i ys ≡ []
none_left [] zero g = refl
none_left [] (suc i) g = refl
none_left (y ∷ ys) zero g = absurd (omega arith)
none_left (y ∷ ys) (suc i) g = none_left ys i (omega arith)

merged_none : (xs ys : List ℕ) (i : ℕ) → length xs ≤ i → length ys ≤ i → merged (drop i xs) (drop i ys) ≡ drop i ys
unfolding merged
merged_none xs ys i h g = rw (none_left xs i h, none_left ys i g) refl

pub merged_end : (xs ys : List ℕ) (i : ℕ) → length xs ≤ i → length ys ≤ i → take i ys ++ merged (drop i xs) (drop i ys) ≡ ys
merged_end xs ys i h g = ap (λ zs. take i ys ++ zs) (merged_none xs ys i h g) ∙ take-append-drop i ys
