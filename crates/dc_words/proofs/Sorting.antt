-- The words, taken one after another.
use Rattle.std.proofs.Common.{◌≡◌, ◌∙◌, ap, ℕ, zero, suc, ◌+◌, ◌≤◌, Bool, true, false, List, [], ◌∷◌, ◌++◌, length, Option, Some, None, option_map, refl, arith, append_assoc, append-nil, add-zero, zero-add}
use Rattle.std.proofs.lemmas.List.{length-append}
use Rattle.clap.specs.Walk.{Text}
use Rattle.dc_words.specs.WordKinds.{WordKind, Plain, Dashes, Flag, Refused, Sorted, with_plain, with_flag, kind_of, taken, sorted, placed, in_places, given_of_sorted}
use Rattle.dc_words.proofs.States.{Told, told, told_for}

-- what is told of words of which these plain ones and so many flags were taken
abbrev pub with_front : List Text → ℕ → Option Sorted → Option Told
with_front ps k None = None
with_front ps k (Some s) = told_for (ps ++ s.plain) (k + s.flags)

abbrev pub completed : Bool → List Text → ℕ → List Text → Option Told
completed behind ps k ws = with_front ps k (sorted behind ws)

pub completed_end : (behind : Bool) (ps : List Text) (k : ℕ) → completed behind ps k [] ≡ told_for ps k
unfolding sorted
completed_end behind ps k = rw (append-nil ps, add-zero) refl

plain_taken : (w : Text) (ps : List Text) (k : ℕ) (o : Option Sorted) → with_front ps k (option_map (with_plain w) o) ≡ with_front (ps ++ w ∷ []) k o
plain_taken w ps k None = refl
plain_taken w ps k (Some s) = rw (append_assoc ps (w ∷ []) s.plain) refl

flag_taken : (ps : List Text) (k : ℕ) (o : Option Sorted) → with_front ps k (option_map with_flag o) ≡ with_front ps (k + 1) o
flag_taken ps k None = refl
flag_taken ps k (Some s) = ap (λ n. told_for (ps ++ s.plain) n) (moved k s.flags)
  where
    moved : (a b : ℕ) → a + (b + 1) ≡ a + 1 + b
    moved a b = omega arith

taken_as : (b : Bool) (w : Text) (ws ps : List Text) (k : ℕ) (a : WordKind) → kind_of b w ≡ a → completed b ps k (w ∷ ws) ≡ with_front ps k (taken a w (sorted true ws) (sorted b ws))
unfolding sorted
taken_as b w ws ps k a e = ap (λ (a : WordKind). with_front ps k (taken a w (sorted true ws) (sorted b ws))) e

pub plain : (b : Bool) (w : Text) (ws ps : List Text) (k : ℕ) → kind_of b w ≡ Plain → completed b ps k (w ∷ ws) ≡ completed b (ps ++ w ∷ []) k ws
plain b w ws ps k e = taken_as b w ws ps k Plain e ∙ plain_taken w ps k (sorted b ws)

pub dashes : (b : Bool) (w : Text) (ws ps : List Text) (k : ℕ) → kind_of b w ≡ Dashes → completed b ps k (w ∷ ws) ≡ completed true ps k ws
dashes b w ws ps k e = taken_as b w ws ps k Dashes e

pub flag : (b : Bool) (w : Text) (ws ps : List Text) (k : ℕ) → kind_of b w ≡ Flag → completed b ps k (w ∷ ws) ≡ completed b ps (k + 1) ws
flag b w ws ps k e = taken_as b w ws ps k Flag e ∙ flag_taken ps k (sorted b ws)

pub refused : (b : Bool) (w : Text) (ws ps : List Text) (k : ℕ) → kind_of b w ≡ Refused → completed b ps k (w ∷ ws) ≡ None
refused b w ws ps k e = taken_as b w ws ps k Refused e

-- four plain words find no places
no_places : (ps : List Text) (edges : Bool) → 4 ≤ length ps → in_places ps edges ≡ None
no_places [] edges h = absurd (omega arith)
no_places (a ∷ []) edges h = absurd (omega arith)
no_places (a ∷ b ∷ []) edges h = absurd (omega arith)
no_places (a ∷ b ∷ c ∷ []) edges h = absurd (omega arith)
no_places (a ∷ b ∷ c ∷ d ∷ ps) edges h = refl

too_long : (ps : List Text) (k : ℕ) → 4 ≤ length ps → placed ps k ≡ None
too_long ps zero h = no_places ps false h
too_long ps (suc zero) h = no_places ps true h
too_long ps (suc (suc k)) h = refl

pub too_many_plain : (ps ws : List Text) (b : Bool) (k : ℕ) → 4 ≤ length ps → completed b ps k ws ≡ None
too_many_plain ps ws b k h = all (sorted b ws)
  where
    longer : (s : Sorted) → 4 ≤ length (ps ++ s.plain)
    longer s = omega (arith, length-append ps s.plain)

    all : (o : Option Sorted) → with_front ps k o ≡ None
    all None = refl
    all (Some s) = ap (option_map told) (too_long (ps ++ s.plain) (k + s.flags) (longer s))

pub too_many_flags : (ps ws : List Text) (b : Bool) → completed b ps 2 ws ≡ None
too_many_flags ps ws b = all (sorted b ws)
  where
    two : (n : ℕ) → 2 + n ≡ suc (suc n)
    two n = omega arith

    all : (o : Option Sorted) → with_front ps 2 o ≡ None
    all None = refl
    all (Some s) = rw (two s.flags) refl

-- nothing was taken yet
pub from_start : (o : Option Sorted) → with_front [] 0 o ≡ option_map told (given_of_sorted o)
from_start None = refl
from_start (Some s) = rw zero-add refl
