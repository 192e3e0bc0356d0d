-- An input has one text or one refusal.
use Rattle.std.proofs.Common.{◌≡◌, sym, ◌∙◌, subst, ◌⊎◌, inl, inr, ℕ, ◌+◌, List, ◌++◌, refl}
use Rattle.dc_show.specs.Shown.{Shows, ends, goes_on, Refuses, at_the_end, here, later, ShowsLine, RefusesLine, IsOneLine, IsFirstLine, IsShowError, without_return}
use Rattle.dc_show.specs.declared.error.FrameFault.{FrameFault}
use Rattle.dc_show.specs.declared.error.ShowError.{ShowError}
use Rattle.dc_show.specs.declared.error.ShowError.TheVariants.{BadFrame, NoMemory}
use Rattle.dc_show.proofs.OneLine.{one_text, never_both, one_fault, first_line_not_one, one_first_line}

-- of an input that is one line
shown_last : (number : ℕ) (bytes text : List ℕ) → IsOneLine bytes → Shows number bytes text → ShowsLine number bytes text
shown_last number bytes text one (ends _ _ _ _ shown) = shown
shown_last number bytes text one (goes_on _ _ line rest _ _ first _ _) = absurd (first_line_not_one bytes line rest first one)

refused_last : (number : ℕ) (bytes : List ℕ) (n : ℕ) (fault : FrameFault) → IsOneLine bytes → Refuses number bytes n fault → (n ≡ number) × RefusesLine bytes fault
refused_last number bytes n fault one (at_the_end _ _ _ _ refused) = (refl, refused)
refused_last number bytes n fault one (here _ _ line rest _ first _) = absurd (first_line_not_one bytes line rest first one)
refused_last number bytes n fault one (later _ _ line rest _ _ _ first _ _) = absurd (first_line_not_one bytes line rest first one)

-- of one with a first line
record ShowsFirst (number : ℕ) (line rest text : List ℕ) : Type 0 where
  here_text : List ℕ
  behind_text : List ℕ
  shown : ShowsLine number (without_return line) here_text
  behind : Shows (number + 1) rest behind_text
  is : text ≡ here_text ++ behind_text

shown_first : (number : ℕ) (bytes text line rest : List ℕ) → IsFirstLine bytes line rest → Shows number bytes text → ShowsFirst number line rest text
shown_first number bytes text line rest first (ends _ _ _ one _) = absurd (first_line_not_one bytes line rest first one)
shown_first number bytes text line rest first (goes_on _ _ l r t b other shown behind) =
    let e = one_first_line bytes l r line rest other first in
    record {
      here_text = t;
      behind_text = b;
      shown = subst (λ x. ShowsLine number (without_return x) t) e.0 shown;
      behind = subst (λ x. Shows (number + 1) x b) e.1 behind;
      is = refl;
    }

data RefusesFirst (number : ℕ) (line rest : List ℕ) (n : ℕ) (fault : FrameFault) : Type 0 where
  in_it : n ≡ number → RefusesLine (without_return line) fault → RefusesFirst number line rest n fault
  behind_it : (text : List ℕ) → ShowsLine number (without_return line) text → Refuses (number + 1) rest n fault → RefusesFirst number line rest n fault

refused_first : (number : ℕ) (bytes line rest : List ℕ) (n : ℕ) (fault : FrameFault) → IsFirstLine bytes line rest → Refuses number bytes n fault → RefusesFirst number line rest n fault
refused_first number bytes line rest n fault first (at_the_end _ _ _ one _) = absurd (first_line_not_one bytes line rest first one)
refused_first number bytes line rest n fault first (here _ _ l r _ other refused) =
    in_it refl (subst (λ x. RefusesLine (without_return x) fault) (one_first_line bytes l r line rest other first).0 refused)
refused_first number bytes line rest n fault first (later _ _ l r t _ _ other shown behind) =
    let e = one_first_line bytes l r line rest other first in
    behind_it t (subst (λ x. ShowsLine number (without_return x) t) e.0 shown) (subst (λ x. Refuses (number + 1) x n fault) e.1 behind)

appended : (a b c d : List ℕ) → a ≡ c → b ≡ d → a ++ b ≡ c ++ d
appended a b c d p q = rw (p, q) refl

pub same_text : (number : ℕ) (bytes s t : List ℕ) → Shows number bytes s → Shows number bytes t → s ≡ t
same_text number bytes s t (ends _ _ _ one shown) q = one_text number bytes s t shown (shown_last number bytes t one q)
same_text number bytes s t (goes_on _ _ line rest a b first shown behind) q =
    let other = shown_first number bytes t line rest first q in
    appended a b other.here_text other.behind_text (one_text number (without_return line) a other.here_text shown other.shown) (same_text (number + 1) rest b other.behind_text behind other.behind)
    ∙ sym other.is

pub text_or_refusal : (number : ℕ) (bytes text : List ℕ) (n : ℕ) (fault : FrameFault) → Shows number bytes text → Refuses number bytes n fault → ⊥
text_or_refusal number bytes text n fault (ends _ _ _ one shown) q = never_both number bytes text fault shown (refused_last number bytes n fault one q).1
text_or_refusal number bytes text n fault (goes_on _ _ line rest a b first shown behind) q =
    elim (refused_first number bytes line rest n fault first q) [
      | in_it _ refused ↦ never_both number (without_return line) a fault shown refused
      | behind_it _ _ later_on ↦ text_or_refusal (number + 1) rest b n fault behind later_on
    ]

pub same_refusal : (number : ℕ) (bytes : List ℕ) (n m : ℕ) (f g : FrameFault) → Refuses number bytes n f → Refuses number bytes m g → (n ≡ m) × (f ≡ g)
same_refusal number bytes n m f g (at_the_end _ _ _ one refused) q =
    let other = refused_last number bytes m g one q in
    (sym other.0, one_fault bytes f g refused.why other.1.why)
same_refusal number bytes n m f g (here _ _ line rest _ first refused) q =
    elim (refused_first number bytes line rest m g first q) [
      | in_it e other ↦ (sym e, one_fault (without_return line) f g refused.why other.why)
      | behind_it text shown _ ↦ absurd (never_both number (without_return line) text f shown refused)
    ]
same_refusal number bytes n m f g (later _ _ line rest text _ _ first shown behind) q =
    elim (refused_first number bytes line rest m g first q) [
      | in_it _ other ↦ absurd (never_both number (without_return line) text g shown other)
      | behind_it _ _ other ↦ same_refusal (number + 1) rest n m f g behind other
    ]

-- an error that says this of an input is its own refusal, or want of memory
pub own_refusal : (bytes : List ℕ) (e : ShowError) → IsShowError bytes e → (n : ℕ) (fault : FrameFault) → Refuses 1 bytes n fault → (e ≡ BadFrame n fault) ⊎ (e ≡ NoMemory)
own_refusal bytes (BadFrame m f) told n fault r =
    let same = same_refusal 1 bytes m n f fault told r in
    inl (bad_path m n f fault same.0 same.1)
  where
    bad_path : (i j : ℕ) (g h : FrameFault) → i ≡ j → g ≡ h → BadFrame i g ≡ BadFrame j h
    bad_path i j g h p q = cc
own_refusal bytes NoMemory told n fault r = inr refl

-- and where the input has a text, want of memory alone
pub no_refusal : (bytes : List ℕ) (e : ShowError) → IsShowError bytes e → (text : List ℕ) → Shows 1 bytes text → e ≡ NoMemory
no_refusal bytes (BadFrame m f) told text shown = absurd (text_or_refusal 1 bytes text m f shown told)
no_refusal bytes NoMemory told text shown = refl
