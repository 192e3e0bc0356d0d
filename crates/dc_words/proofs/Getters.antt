-- What the getters of clap's matches give, as the definition reads it.
use Rattle.std.proofs.Common.{◌≡◌, ◌⊎◌, ◌∙◌, sym, ap, Bool, true, false, codes, Option, Some, None, refl, inl, inr}
use Rattle.std.specs.Option.{option_and_then}
use Rattle.clap.specs.Matches.{first_value, one_text}
use Rattle.clap.specs.Walk.{Text, first_of, one_of, rows_of}
use Rattle.clap.specs.declared.parser.matches.Found.{Found}
use Rattle.clap.proofs.WalkLemmas.{first_value-rows, one_text-rows}
use Rattle.dc_words.specs.CommandOfWords.{asked, given_of, is_on, made}

-- the texts of the flag
abbrev pub IsTold : Found → Type 0
IsTold f = (one_text f (codes "edges") ≡ Some (codes "true")) ⊎ (one_text f (codes "edges") ≡ Some (codes "false"))

flag_is : (f : Found) (edges : Bool) → IsTold f → (one_text f (codes "edges") ≡ Some (codes "true") → edges ≡ true)
    → (one_text f (codes "edges") ≡ Some (codes "false") → edges ≡ false) → edges ≡ is_on (one_of (codes "edges") (rows_of f))
flag_is f edges told on off = elim told [
  | inl e ↦ on e ∙ ap is_on (sym e ∙ one_text-rows f (codes "edges"))
  | inr e ↦ off e ∙ ap is_on (sym e ∙ one_text-rows f (codes "edges"))
]

pub made_of_found : (f : Found) (w a b : Option Text) (edges : Bool) → w ≡ first_value f (codes "command") → a ≡ first_value f (codes "first") → b ≡ first_value f (codes "second")
    → IsTold f → (one_text f (codes "edges") ≡ Some (codes "true") → edges ≡ true) → (one_text f (codes "edges") ≡ Some (codes "false") → edges ≡ false)
    → option_and_then (λ w. asked w a b edges) w ≡ made (given_of (rows_of f))
made_of_found f w a b edges p q r told on off =
    rw (p ∙ first_value-rows f (codes "command"), q ∙ first_value-rows f (codes "first"), r ∙ first_value-rows f (codes "second"), flag_is f edges told on off) refl

-- without a first word there is no command
pub none_made : (f : Found) → None ≡ first_value f (codes "command") → None ≡ made (given_of (rows_of f))
none_made f e = ap (λ w. option_and_then (λ w. asked w (first_of (codes "first") (rows_of f)) (first_of (codes "second") (rows_of f)) (is_on (one_of (codes "edges") (rows_of f)))) w) (e ∙ first_value-rows f (codes "command"))
