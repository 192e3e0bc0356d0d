-- A line has one text or one fault, and an input has one first line.
use Rattle.std.proofs.Common.{◌≡◌, ◌≢◌, sym, ap, ◌∙◌, subst, ℕ, ◌+◌, ◌==◌, Bool, true, false, List, [], ◌∷◌, ◌++◌, take, drop, get_or, Some, Result, Ok, refl, inl, inr, arith}
use Rattle.std.proofs.lemmas.Bool.{true≢false}
use Rattle.std.proofs.lemmas.Bool.Decides.{nat_tests}
use Rattle.std.proofs.lemmas.Option.{none-some}
use Rattle.std.specs.List.{position}
use Rattle.hex.specs.Hex.{decode_of}
use Rattle.hex.specs.declared.error.FromHexError.{FromHexError}
use Rattle.ecat_frame.specs.FrameGrammar.{FrameValue, spelling}
use Rattle.ecat_frame.specs.Faults.{IsFault}
use Rattle.ecat_frame.proofs.Exported.{fault_no_frame, fault_unique, spelling-injective}
use Rattle.dc_show.specs.FrameText.{frame_text}
use Rattle.dc_show.specs.Shown.{IsFrameIn, ShowsLine, IsLineFault, RefusesLine, IsOneLine, IsFirstLine}
use Rattle.dc_show.specs.declared.error.FrameFault.{FrameFault}
use Rattle.dc_show.specs.declared.error.FrameFault.TheVariants.{Hex, Frame}
use Rattle.dc_show.proofs.Digits.{bytes_no_fault}
use Rattle.dc_show.proofs.Passing.{none_parts, first_parts}

same_bytes : (a b : List ℕ) (r : Result (List ℕ) FromHexError) → r ≡ Ok a → r ≡ Ok b → a ≡ b
same_bytes a b r p q = cc

same_place : (n m : ℕ) → Some n ≡ Some m → n ≡ m
same_place n m e = cc

same_frame : (line : List ℕ) (f g : FrameValue) → IsFrameIn line f → IsFrameIn line g → f ≡ g
same_frame line f g p q = spelling-injective f g p.valid q.valid (same_bytes (spelling f) (spelling g) (decode_of line) p.digits q.digits)

-- the text of a line
pub one_text : (number : ℕ) (line s t : List ℕ) → ShowsLine number line s → ShowsLine number line t → s ≡ t
one_text number [] s t p q = p ∙ sym q
one_text number (b ∷ line) s t p q = p.1.1 ∙ ap (frame_text number) (same_frame (b ∷ line) p.0 q.0 p.1.0 q.1.0) ∙ sym q.1.1

frame_no_fault : (line : List ℕ) (f : FrameValue) (fault : FrameFault) → IsFrameIn line f → IsLineFault line fault → ⊥
frame_no_fault line f (Hex n) p h = bytes_no_fault line (spelling f) n p.digits h
frame_no_fault line f (Frame e) p h =
    fault_no_frame h.bytes e h.fault (f, (p.valid, same_bytes h.bytes (spelling f) (decode_of line) h.digits p.digits))

pub never_both : (number : ℕ) (line text : List ℕ) (fault : FrameFault) → ShowsLine number line text → RefusesLine line fault → ⊥
never_both number [] text fault p r = let some = r.some in omega arith
never_both number (b ∷ line) text fault p r = frame_no_fault (b ∷ line) p.0 fault p.1.0 r.why

hex_place : (line : List ℕ) (n m : ℕ) → IsLineFault line (Hex n) → IsLineFault line (Hex m) → n ≡ m
hex_place line n m (inl p) (inl q) = same_place n m (sym p ∙ q)
hex_place line n m (inl p) (inr q) = absurd (none-some n (sym q.digits ∙ p))
hex_place line n m (inr p) (inl q) = absurd (none-some m (sym p.digits ∙ q))
hex_place line n m (inr p) (inr q) = p.all ∙ sym q.all

-- the fault of a line
pub one_fault : (line : List ℕ) (f g : FrameFault) → IsLineFault line f → IsLineFault line g → f ≡ g
one_fault line (Hex n) (Hex m) p q = ap (λ i. Hex i) (hex_place line n m p q)
one_fault line (Hex n) (Frame e) p q = absurd (bytes_no_fault line q.bytes n q.digits p)
one_fault line (Frame e) (Hex m) p q = absurd (bytes_no_fault line p.bytes m p.digits q)
one_fault line (Frame e) (Frame d) p q =
    ap (λ x. Frame x) (fault_unique p.bytes e d p.fault (subst (λ b. IsFault b d) (same_bytes q.bytes p.bytes (decode_of line) q.digits p.digits) q.fault))

abbrev is_feed : ℕ → Bool
is_feed b = b == 10

feed_passes : (b : ℕ) → b ≡ 10 → is_feed b ≡ false → ⊥
feed_passes b e other = true≢false (sym (ap is_feed e) ∙ other)

-- an input with a line feed is not one line
pub not_one_line : (line rest : List ℕ) → IsOneLine (line ++ 10 ∷ rest) → ⊥
not_one_line [] rest one = feed_passes 10 refl (none_parts is_feed 10 rest one).0
not_one_line (b ∷ line) rest one = not_one_line line rest (none_parts is_feed b (line ++ 10 ∷ rest) one).1

pub first_line_not_one : (bytes line rest : List ℕ) → IsFirstLine bytes line rest → IsOneLine bytes → ⊥
first_line_not_one bytes line rest first one = not_one_line line rest (subst IsOneLine first.parts one)

same_parts : (l r m s : List ℕ) → IsOneLine l → IsOneLine m → l ++ 10 ∷ r ≡ m ++ 10 ∷ s → (l ≡ m) × (r ≡ s)
same_parts [] r [] s p q e = (refl, tail_is 10 10 r s e)
  where
    tail_is : (a b : ℕ) (xs ys : List ℕ) → a ∷ xs ≡ b ∷ ys → xs ≡ ys
    tail_is a b xs ys h = cc
same_parts [] r (b ∷ m) s p q e = let feed : b ≡ 10 = cc in absurd (feed_passes b feed (none_parts is_feed b m q).0)
same_parts (b ∷ l) r [] s p q e = let feed : b ≡ 10 = cc in absurd (feed_passes b feed (none_parts is_feed b l p).0)
same_parts (b ∷ l) r (c ∷ m) s p q e =
    let head : b ≡ c = cc in
    let tails : l ++ 10 ∷ r ≡ m ++ 10 ∷ s = cc in
    let rest = same_parts l r m s (none_parts is_feed b l p).1 (none_parts is_feed c m q).1 tails in
    (cons_path b c l m head rest.0, rest.1)
  where
    cons_path : (x y : ℕ) (xs ys : List ℕ) → x ≡ y → xs ≡ ys → x ∷ xs ≡ y ∷ ys
    cons_path x y xs ys f g = cc

pub one_first_line : (bytes l r m s : List ℕ) → IsFirstLine bytes l r → IsFirstLine bytes m s → (l ≡ m) × (r ≡ s)
one_first_line bytes l r m s p q = same_parts l r m s p.one q.one (sym p.parts ∙ q.parts)

-- the first line, cut at the first line feed
pub cut_line : (bytes : List ℕ) (n : ℕ) → position (λ b. b == 10) bytes ≡ Some n → IsFirstLine bytes (take n bytes) (drop (n + 1) bytes)
cut_line bytes n e =
    let parts = first_parts is_feed bytes n 0 e in
    record { one = parts.0; parts = parts.1 ∙ ap (λ b. take n bytes ++ b ∷ drop (n + 1) bytes) (is_ten (get_or bytes n 0) parts.2) }
  where
    is_ten : (b : ℕ) → is_feed b ≡ true → b ≡ 10
    is_ten b h = grind (arith, nat_tests)
