-- Reading byte by byte: what leads where.
use Rattle.std.proofs.Common.{◌≡◌, ℕ, ◌+◌, ◌<◌, List, [], ◌∷◌, ◌++◌, length, take, get_or, Ok, refl, sym, ◌∙◌, subst}
use Rattle.std.proofs.lemmas.List.{take_more}
use Rattle.ecat_frame.specs.FramePart.{Part}
use Rattle.ecat_frame.specs.Refusals.{Reaches, step}

pub reaches_append : (xs ys : List ℕ) (p q r : Part) → Reaches p xs q → Reaches q ys r → Reaches p (xs ++ ys) r
reaches_append [] ys p q r h k = subst (λ x. Reaches x ys r) (sym h) k
reaches_append (x ∷ xs) ys p q r h k = (h.0, (h.1.0, reaches_append xs ys h.0 q r h.1.1 k))

pub reaches_split : (xs ys : List ℕ) (p r : Part) → Reaches p (xs ++ ys) r → (q : Part) × (Reaches p xs q × Reaches q ys r)
reaches_split [] ys p r h = (p, (refl, h))
reaches_split (x ∷ xs) ys p r h =
    let rest = reaches_split xs ys h.0 r h.1.1 in
    (rest.0, ((h.0, (h.1.0, rest.1.0)), rest.1.1))

pub same_step : (p m q : Part) (b : ℕ) → step p b ≡ Ok m → step p b ≡ Ok q → m ≡ q
same_step p m q b h k = cc

-- bytes lead to one place
pub same_place : (bs : List ℕ) (p q r : Part) → Reaches p bs q → Reaches p bs r → q ≡ r
same_place [] p q r h k = sym h ∙ k
same_place (b ∷ bs) p q r h k =
    same_place bs k.0 q r (subst (λ m. Reaches m bs q) (same_step p h.0 k.0 b h.1.0 k.1.0) h.1.1) k.1.1

-- one byte further
pub reaches_more : (bs : List ℕ) (n : ℕ) (p q m : Part) → n < length bs → Reaches p (take n bs) q → step q (get_or bs n 0) ≡ Ok m → Reaches p (take (n + 1) bs) m
reaches_more bs n p q m inside before stepped =
    rw (take_more bs n 0 inside) (reaches_append (take n bs) (get_or bs n 0 ∷ []) p q m before (m, (stepped, refl)))
