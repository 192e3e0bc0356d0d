-- The greatest number of all pairs of a list.
use Rattle.std.specs.Prelude.{◌≡◌, ℕ, suc, ◌<◌, ◌≤◌, max, List, [], ◌∷◌, ◌++◌, map, slice_index_or}
use Rattle.std.specs.List.{All, Contains}
use Rattle.std.proofs.Common.{ap, sym, refl, ◌∙◌, arith, inl, inr, ◌⊎◌}
use Rattle.std.proofs.lemmas.Bool.{cases_lt}
use Rattle.std.proofs.lemmas.List.{get_or_default}
use Rattle.std.proofs.lemmas.List.Elements.{All-head, All-tail}
use Rattle.segment_bounds.specs.Window.{greatest, greatest_with}
use Rattle.segment_bounds.proofs.Exported.{most}

-- of images
with_images : {X Y : Type 0} (f : X → Y) (number : Y → Y → ℕ) (a : X) (bs : List X) → greatest_with number (f a) (map f bs) ≡ greatest_with (λ x y. number (f x) (f y)) a bs
unfolding greatest_with
with_images f number a [] = refl
with_images f number a (b ∷ bs) = ap (max (number (f a) (f b))) (with_images f number a bs)

pub of_images : {X Y : Type 0} (f : X → Y) (number : Y → Y → ℕ) (xs : List X) → greatest number (map f xs) ≡ greatest (λ x y. number (f x) (f y)) xs
unfolding greatest
of_images f number [] = refl
of_images f number (x ∷ xs) =
    ap (λ m. max m (greatest number (map f xs))) (with_images f number x xs) ∙ ap (max (greatest_with (λ a b. number (f a) (f b)) x xs)) (of_images f number xs)

-- two numbers that agree on elements of one kind
with_alike : {X : Type 0} (m n : X → X → ℕ) (P : X → Type 0) → ((x y : X) → P x → P y → m x y ≡ n x y) → (a : X) (bs : List X) → P a → All P bs → greatest_with m a bs ≡ greatest_with n a bs
unfolding greatest_with
with_alike m n P same a [] here all = refl
with_alike m n P same a (b ∷ bs) here all =
    ap (λ k. max k (greatest_with m a bs)) (same a b here (All-head P b bs all)) ∙ ap (max (n a b)) (with_alike m n P same a bs here (All-tail P b bs all))

pub alike : {X : Type 0} (m n : X → X → ℕ) (P : X → Type 0) → ((x y : X) → P x → P y → m x y ≡ n x y) → (xs : List X) → All P xs → greatest m xs ≡ greatest n xs
unfolding greatest
alike m n P same [] all = refl
alike m n P same (x ∷ xs) all =
    ap (λ k. max k (greatest m xs)) (with_alike m n P same x xs (All-head P x xs all) (All-tail P x xs all)) ∙ ap (max (greatest_with n x xs)) (alike m n P same xs (All-tail P x xs all))

-- with one more element at the end
with_pushed : {X : Type 0} (number : X → X → ℕ) (a : X) (bs : List X) (c : X) → greatest_with number a (bs ++ c ∷ []) ≡ max (greatest_with number a bs) (number a c)
unfolding greatest_with
with_pushed number a [] c = omega arith
with_pushed number a (b ∷ bs) c = let rest = with_pushed number a bs c in omega (arith, rest)

pub pushed : {X : Type 0} (number : X → X → ℕ) → ((x y : X) → number x y ≡ number y x) → (xs : List X) (c : X)
    → greatest number (xs ++ c ∷ []) ≡ max (greatest_with number c xs) (greatest number xs)
unfolding greatest greatest_with
pushed number either [] c = omega arith
pushed number either (x ∷ xs) c =
    let rest = pushed number either xs c in
    let here = with_pushed number x xs c in
    let turn = either c x in
    omega (arith, rest, here, turn)

-- no two elements have a greater number
pub at_least : {X : Type 0} (number : X → X → ℕ) → ((x y : X) → number x y ≡ number y x) → ((x : X) → number x x ≡ 0) → (xs : List X) (a b : X) → Contains xs a → Contains xs b
    → number a b ≤ greatest number xs
at_least number either none xs a b here there = by (cases_lt here.0 there.0) (cases_lt there.0 here.0)
  where
    first : slice_index_or xs here.0 a ≡ a
    first = here.2

    second : slice_index_or xs there.0 a ≡ b
    second = get_or_default xs there.0 a b there.1 ∙ there.2

    by : (here.0 < there.0) ⊎ (there.0 ≤ here.0) → (there.0 < here.0) ⊎ (here.0 ≤ there.0) → number a b ≤ greatest number xs
    by (inl low) other =
        let h = most number xs here.0 there.0 a low there.1 in
        let e : number (slice_index_or xs here.0 a) (slice_index_or xs there.0 a) ≡ number a b = ap (λ x. number x (slice_index_or xs there.0 a)) first ∙ ap (number a) second in
        omega (arith, h, e)
    by (inr high) (inl low) =
        let h = most number xs there.0 here.0 a low here.1 in
        let e : number (slice_index_or xs there.0 a) (slice_index_or xs here.0 a) ≡ number b a = ap (λ x. number x (slice_index_or xs here.0 a)) second ∙ ap (number b) first in
        omega (arith, h, e, either a b)
    by (inr high) (inr low) =
        let same : there.0 ≡ here.0 = omega (arith, high, low) in
        let is : b ≡ a = sym second ∙ ap (λ k. slice_index_or xs k a) same ∙ first in
        let e : number a b ≡ 0 = ap (number a) is ∙ none a in
        omega (arith, e)

-- a number that no two elements pass
with_within : {X : Type 0} (number : X → X → ℕ) (m : ℕ) (a : X) (bs : List X) → ((y : X) → Contains bs y → number a y ≤ m) → greatest_with number a bs ≤ m
unfolding greatest_with
with_within number m a [] low = omega arith
with_within number m a (b ∷ bs) low =
    let here = low b (0, omega arith, refl) in
    let rest = with_within number m a bs (λ y has. low y (suc has.0, omega (arith, has.1), has.2)) in
    omega (arith, here, rest)

pub within : {X : Type 0} (number : X → X → ℕ) (m : ℕ) (xs : List X) → ((x y : X) → Contains xs x → Contains xs y → number x y ≤ m) → greatest number xs ≤ m
unfolding greatest
within number m [] low = omega arith
within number m (x ∷ xs) low =
    let here = with_within number m x xs (λ y has. low x y (0, omega arith, refl) (suc has.0, omega (arith, has.1), has.2)) in
    let rest = within number m xs (λ y z has too. low y z (suc has.0, omega (arith, has.1), has.2) (suc too.0, omega (arith, too.1), too.2)) in
    omega (arith, here, rest)

-- a greatest number above 0 is that of two elements
with_more : {X : Type 0} (number : X → X → ℕ) (a b : X) (bs : List X)
    → (0 < greatest_with number a bs → (c : X) × Contains bs c × (number a c ≡ greatest_with number a bs))
    → (greatest_with number a bs < number a b) ⊎ (number a b ≤ greatest_with number a bs) → 0 < greatest_with number a (b ∷ bs)
    → (c : X) × Contains (b ∷ bs) c × (number a c ≡ greatest_with number a (b ∷ bs))
unfolding greatest_with
with_more number a b bs rest (inl low) some = (b, (0, omega arith, refl), omega (arith, low))
with_more number a b bs rest (inr high) some =
    let r = rest (omega (arith, some, high)) in
    (r.0, (suc r.1.0, omega (arith, r.1.1), r.1.2), omega (arith, r.2, high))

with_reached : {X : Type 0} (number : X → X → ℕ) (a : X) (bs : List X) → 0 < greatest_with number a bs → (b : X) × Contains bs b × (number a b ≡ greatest_with number a bs)
unfolding greatest_with
with_reached number a [] some = absurd (omega (arith, some))
with_reached number a (b ∷ bs) some = with_more number a b bs (with_reached number a bs) (cases_lt (greatest_with number a bs) (number a b)) some

more : {X : Type 0} (number : X → X → ℕ) (x : X) (xs : List X)
    → (0 < greatest number xs → (a : X) × (b : X) × Contains xs a × Contains xs b × (number a b ≡ greatest number xs))
    → (greatest number xs < greatest_with number x xs) ⊎ (greatest_with number x xs ≤ greatest number xs) → 0 < greatest number (x ∷ xs)
    → (a : X) × (b : X) × Contains (x ∷ xs) a × Contains (x ∷ xs) b × (number a b ≡ greatest number (x ∷ xs))
unfolding greatest
more number x xs rest (inl low) some =
    let r = with_reached number x xs (omega (arith, some, low)) in
    (x, r.0, (0, omega arith, refl), (suc r.1.0, omega (arith, r.1.1), r.1.2), omega (arith, r.2, low))
more number x xs rest (inr high) some =
    let r = rest (omega (arith, some, high)) in
    (r.0, r.1, (suc r.2.0, omega (arith, r.2.1), r.2.2), (suc r.3.0, omega (arith, r.3.1), r.3.2), omega (arith, r.4, high))

pub reached : {X : Type 0} (number : X → X → ℕ) (xs : List X) → 0 < greatest number xs
    → (a : X) × (b : X) × Contains xs a × Contains xs b × (number a b ≡ greatest number xs)
unfolding greatest
reached number [] some = absurd (omega (arith, some))
reached number (x ∷ xs) some = more number x xs (reached number xs) (cases_lt (greatest number xs) (greatest_with number x xs)) some
