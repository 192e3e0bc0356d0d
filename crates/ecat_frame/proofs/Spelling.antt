-- The bytes of a frame in front of others, read again.
use Rattle.std.proofs.Common.{◌≡◌, ℕ, ◌+◌, ◌/◌, ◌%◌, ◌^◌, ◌<◌, List, ◌∷◌, ◌++◌, length, take, drop, refl, sym, ap, ◌∙◌, arith}
use Rattle.std.proofs.lemmas.List.{append_assoc, length-append, take_at, drop_at, drop-drop}
use Rattle.ecat_frame.specs.FrameGrammar.{DatagramValue, FrameValue, IsFrame, all_spelled, spelling, word, header_word}
use Rattle.ecat_frame.specs.InsideFrame.{header_in}
use Rattle.ecat_frame.proofs.Spelled.{word_back}

-- what stands behind the addresses
abbrev pub behind_addresses : FrameValue → List ℕ → List ℕ
behind_addresses f xs = 0x88 ∷ 0xA4 ∷ (word (header_word f) ++ (all_spelled f.datagrams ++ (f.padding ++ xs)))

-- part behind part
pub spelling-append : (f : FrameValue) (xs : List ℕ) → spelling f ++ xs ≡ f.destination ++ (f.source ++ behind_addresses f xs)
unfolding spelling
spelling-append f xs = simp append_assoc

pub header_word-lt : (f : FrameValue) → IsFrame f → header_word f < 2 ^ 16
header_word-lt f w = omega (arith, w.reserved, w.most)

pub header_word-mod : (f : FrameValue) → IsFrame f → header_word f % 2048 ≡ length (all_spelled f.datagrams)
header_word-mod f w = omega (arith, w.reserved, w.most)

pub header_word-div : (f : FrameValue) → IsFrame f → header_word f / 2048 % 2 ≡ f.reserved
header_word-div f w = omega (arith, w.reserved, w.most)

module _ (f : FrameValue) (w : IsFrame f) (xs : List ℕ) where
  pub take-spelling : take 6 (spelling f ++ xs) ≡ f.destination
  take-spelling = rw (spelling-append f xs) (take_at f.destination (f.source ++ behind_addresses f xs) 6 w.destination.0)

  pub drop-spelling-6 : drop 6 (spelling f ++ xs) ≡ f.source ++ behind_addresses f xs
  drop-spelling-6 = rw (spelling-append f xs) (drop_at f.destination (f.source ++ behind_addresses f xs) 6 w.destination.0)

  pub take-drop-spelling : take 6 (drop 6 (spelling f ++ xs)) ≡ f.source
  take-drop-spelling = rw drop-spelling-6 (take_at f.source (behind_addresses f xs) 6 w.source.0)

  drop-spelling-12 : drop 12 (spelling f ++ xs) ≡ behind_addresses f xs
  drop-spelling-12 =
      sym (drop-drop 6 6 (spelling f ++ xs)) ∙ ap (drop 6) drop-spelling-6 ∙ drop_at f.source (behind_addresses f xs) 6 w.source.0

  pub header_in-spelling : header_in (spelling f ++ xs) ≡ header_word f
  header_in-spelling =
      let at : drop 14 (spelling f ++ xs) ≡ drop 2 (behind_addresses f xs) = sym (drop-drop 2 12 (spelling f ++ xs)) ∙ ap (drop 2) drop-spelling-12 in
      rw at (word_back (header_word f) (header_word-lt f w))

  pub drop-spelling : drop 16 (spelling f ++ xs) ≡ all_spelled f.datagrams ++ (f.padding ++ xs)
  drop-spelling = sym (drop-drop 4 12 (spelling f ++ xs)) ∙ ap (drop 4) drop-spelling-12

  pub drop-spelling-all : drop (16 + length (all_spelled f.datagrams)) (spelling f ++ xs) ≡ f.padding ++ xs
  drop-spelling-all =
      sym (drop-drop (length (all_spelled f.datagrams)) 16 (spelling f ++ xs))
      ∙ ap (drop (length (all_spelled f.datagrams))) drop-spelling
      ∙ drop_at (all_spelled f.datagrams) (f.padding ++ xs) (length (all_spelled f.datagrams)) refl

pub length-spelling : (f : FrameValue) → IsFrame f → length (spelling f) ≡ 16 + length (all_spelled f.datagrams) + length f.padding
unfolding spelling
length-spelling f w =
    let a = w.destination.0 in
    let b = w.source.0 in
    simp length-append (omega arith)

pub frame_path : (to to' from from' : List ℕ) (r r' : ℕ) (ds ds' : List DatagramValue) (p p' : List ℕ) → to ≡ to' → from ≡ from' → r ≡ r' → ds ≡ ds' → p ≡ p'
    → ◌≡◌ {A = FrameValue} (record { destination = to; source = from; reserved = r; datagrams = ds; padding = p }) (record { destination = to'; source = from'; reserved = r'; datagrams = ds'; padding = p' })
frame_path to to' from from' r r' ds ds' p p' e1 e2 e3 e4 e5 = cc
