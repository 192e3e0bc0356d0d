-- What clap's answer to the words says of their command.
use Rattle.std.proofs.Common.{◌≡◌, ◌∙◌, sym, ap, subst, Bool, true, false, List, [], ◌∷◌, length, map, codes, Some, None, refl, arith, inl, inr, cond, string_bytes, String, Global, IsUtf8, All}
use Rattle.std.specs.Option.{option_and_then}
use Rattle.std.proofs.lemmas.Bool.{ne_eqb}
use Rattle.std.proofs.lemmas.List.Elements.{All-nil, All-cons}
use Rattle.std.proofs.lemmas.Str.{IsUtf8-string_bytes}
use Rattle.clap.specs.Faults.{fault_of, is_simple_and_free}
use Rattle.clap.specs.Kinds.{HasKind, IsAmong, Kinds}
use Rattle.clap.specs.Simple.{App, is_simple, matches_of}
use Rattle.clap.specs.Values.{kind_of}
use Rattle.clap.specs.Walk.{Row, Text, one_of, rows_of}
use Rattle.clap.specs.declared.error.Error.{Error}
use Rattle.clap.specs.declared.error.kind.ErrorKind.{ErrorKind}
use Rattle.clap.specs.declared.error.kind.ErrorKind.TheVariants.{OutOfMemory}
use Rattle.clap.specs.declared.parser.matches.Found.{Found}
use Rattle.clap.proofs.WalkLemmas.{one_text-rows}
use Rattle.dc_words.specs.CommandLine.{dc_app}
use Rattle.dc_words.specs.CommandOfWords.{command_of, given, given_of, made}
use Rattle.dc_words.proofs.Getters.{IsTold}
use Rattle.dc_words.proofs.Walking.{flag_is_told}
use Rattle.dc_words.proofs.WordShapes.{is_none}

pub all_texts : (words : List (String Global)) → All IsUtf8 (map string_bytes words)
all_texts [] = All-nil IsUtf8
all_texts (w ∷ words) = All-cons IsUtf8 (string_bytes w) (map string_bytes words) (IsUtf8-string_bytes w) (all_texts words)

-- the command is one of which clap says all
plain_app : is_simple_and_free dc_app ≡ true
plain_app = refl

simple_app : is_simple dc_app ≡ true
simple_app = refl

-- words that clap takes
pub not_refused : (a : App) (ws : List Text) → a ≡ dc_app → (is_simple_and_free a ≡ true → fault_of a ws ≡ []) → fault_of dc_app ws ≡ []
not_refused a ws is kinds = subst (λ (b : App). fault_of b ws ≡ []) is (kinds (ap is_simple_and_free is ∙ plain_app))

pub rows_are : (a : App) (f : Found) (ws : List Text) (Z : Type 0) → a ≡ dc_app → (is_simple a ≡ true → (rows_of f ≡ matches_of a ws) × Z) → rows_of f ≡ matches_of dc_app ws
rows_are a f ws Z is matches = subst (λ (b : App). rows_of f ≡ matches_of b ws) is (matches (ap is_simple is ∙ simple_app)).0

pub found_told : (f : Found) (ws : List Text) → All IsUtf8 ws → fault_of dc_app ws ≡ [] → rows_of f ≡ matches_of dc_app ws → IsTold f
found_told f ws u e rows =
    let text = one_text-rows f (codes "edges") ∙ ap (one_of (codes "edges")) rows in
    elim (flag_is_told ws u e) [
      | inl h ↦ inl (text ∙ h)
      | inr h ↦ inr (text ∙ h)
    ]

pub command_found : (f : Found) (ws : List Text) → fault_of dc_app ws ≡ [] → rows_of f ≡ matches_of dc_app ws → made (given_of (rows_of f)) ≡ command_of ws
unfolding given
command_found f ws e rows = ap (λ (rs : List Row). made (given_of rs)) rows ∙ sym (ap (λ (k : Kinds). option_and_then made (cond (is_none k) (Some (given_of (matches_of dc_app ws))) None)) e)

-- words that clap refuses
among : (k : ErrorKind) (kinds : Kinds) → IsAmong k kinds → is_none kinds ≡ false
among k [] h = absurd h
among k (x ∷ xs) h = ne_eqb (length (x ∷ xs)) 0 (λ e. omega arith)

none_given : (ws : List Text) → is_none (fault_of dc_app ws) ≡ false → command_of ws ≡ None
unfolding given
none_given ws e = ap (λ (b : Bool). option_and_then made (cond b (Some (given_of (matches_of dc_app ws))) None)) e

pub none_found : (a : App) (e : Error) (ws : List Text) → a ≡ dc_app → (is_simple_and_free a ≡ true → HasKind (fault_of a ws) e) → (kind_of e ≡ OutOfMemory → ⊥) → None ≡ command_of ws
none_found a e ws is kinds other =
    elim (subst (λ (b : App). HasKind (fault_of b ws) e) is (kinds (ap is_simple_and_free is ∙ plain_app))) [
      | inl h ↦ absurd (other h)
      | inr h ↦ sym (none_given ws (among (kind_of e) (fault_of dc_app ws) h))
    ]
