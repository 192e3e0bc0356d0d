-- One line after another.
use Rattle.std.specs.Prelude.{◌≡◌, ℕ, zero, suc, ◌+◌, List, ◌++◌}
use Rattle.std.specs.List.{flat_map, range_with_len}
use Rattle.std.proofs.Common.{ap, sym, ◌∙◌, append_assoc, append-nil, arith}

-- a count has one more number
counted_more : {A : Type 0} (f : ℕ → List A) (a n : ℕ) → flat_map f (range_with_len a (suc n)) ≡ flat_map f (range_with_len a n) ++ f (a + n)
counted_more f a zero = let same : a + 0 ≡ a = omega arith in append-nil (f a) ∙ ap f (sym same)
counted_more f a (suc n) =
    let same : a + 1 + n ≡ a + suc n = omega arith in
    ap (λ t. f a ++ t) (counted_more f (a + 1) n) ∙ sym (append_assoc (f a) (flat_map f (range_with_len (a + 1) n)) (f (a + 1 + n)))
    ∙ ap (λ i. f a ++ flat_map f (range_with_len (a + 1) n) ++ f i) same

-- one more line was written
pub line_more : (f : ℕ → List ℕ) (n : ℕ) (start old new : List ℕ) → old ≡ start ++ flat_map f (range_with_len 0 n) → new ≡ old ++ f n
    → new ≡ start ++ flat_map f (range_with_len 0 (n + 1))
line_more f n start old new was is =
    let up : suc n ≡ n + 1 = omega arith in
    let same : 0 + n ≡ n = omega arith in
    is ∙ ap (λ t. t ++ f n) was ∙ append_assoc start (flat_map f (range_with_len 0 n)) (f n)
    ∙ ap (λ t. start ++ t) (ap (λ i. flat_map f (range_with_len 0 n) ++ f i) (sym same) ∙ sym (counted_more f 0 n) ∙ ap (λ i. flat_map f (range_with_len 0 i)) up)
