-- One datagram after another.
use Rattle.std.proofs.Common.{◌≡◌, ◌∙◌, sym, ap, ℕ, ◌+◌, List, [], ◌∷◌, ◌++◌, take, Some, append_assoc, append-nil, get_or}
use Rattle.std.specs.Prelude.{slice_get}
use Rattle.std.specs.List.{flat_map}
use Rattle.std.proofs.lemmas.Grind.{flat_map-append}
use Rattle.std.proofs.lemmas.List.{take_more}
use Rattle.std.proofs.lemmas.Option.{slice_get_within, slice_get-get_or}

taken : {X : Type 0} (xs : List X) (k : ℕ) (x : X) → slice_get xs k ≡ Some x → take (k + 1) xs ≡ take k xs ++ x ∷ []
taken xs k x e =
    let h = slice_get_within xs k x e in
    let g : get_or xs k x ≡ x = same (get_or xs k x) x (sym (slice_get-get_or xs k x h) ∙ e) in
    take_more xs k x h ∙ ap (λ y. take k xs ++ y ∷ []) g
  where
    same : {X : Type 0} (a b : X) → Some a ≡ Some b → a ≡ b
    same a b p = cc

pub text_more : {X : Type 0} (f : X → List ℕ) (xs : List X) (k : ℕ) (x : X) (start old new : List ℕ) → slice_get xs k ≡ Some x → old ≡ start ++ flat_map f (take k xs) → new ≡ old ++ f x → new ≡ start ++ flat_map f (take (k + 1) xs)
text_more f xs k x start old new e o n =
    n ∙ ap (λ t. t ++ f x) o ∙ append_assoc start (flat_map f (take k xs)) (f x)
    ∙ ap (λ t. start ++ t) (ap (λ t. flat_map f (take k xs) ++ t) (sym (append-nil (f x))) ∙ sym (flat_map-append f (take k xs) (x ∷ [])) ∙ ap (λ ys. flat_map f ys) (sym (taken xs k x e)))
