-- The datagrams of a frame, counted along their length words.
use Rattle.std.proofs.Common.{◌≡◌, ℕ, ◌+◌, ◌-◌, ◌%◌, ◌<◌, ◌≤◌, List, [], ◌∷◌, ◌++◌, length, drop, replicate, sym, ap, ◌∙◌, arith}
use Rattle.std.specs.List.{All}
use Rattle.std.proofs.lemmas.List.{append-nil, drop-drop, drop-replicate, drop_at, length-append, length-drop}
use Rattle.std.proofs.lemmas.List.Elements.{All-head, All-tail}
use Rattle.ecat_frame.specs.Changed.{put}
use Rattle.ecat_frame.specs.FrameGrammar.{DatagramValue, FrameValue, InGrammar, IsDatagram, IsFrame, all_spelled, more, spelled, spelling}
use Rattle.ecat_frame.specs.InsideFrame.{header_in, kept_bytes}
use Rattle.ecat_frame.specs.Reading.{data_length}
use Rattle.ecat_frame.proofs.Datagrams.{all_spelled-cons, length-all_spelled-ge, more-lt, some_datagram}
use Rattle.ecat_frame.proofs.Kept.{Keeps, length-spelling-le}
use Rattle.ecat_frame.proofs.Spelled.{data_length-spelled, length-spelled}
use Rattle.ecat_frame.proofs.Spelling.{drop-spelling, header_in-spelling, header_word-mod, length-spelling}

-- so many datagrams of the frame end at a place, and the others lie from there on
pub record Counted (f : FrameValue) (bytes : List ℕ) (end at count : ℕ) : Type 0 where
  pub rest : List DatagramValue
  pub valid : All IsDatagram rest
  pub counted : count + length rest ≡ length f.datagrams
  pub there : drop at bytes ≡ all_spelled rest ++ f.padding
  pub ends : end ≡ at + length (all_spelled rest)

-- of each frame that the bytes are
abbrev pub AreCounted : List ℕ → ℕ → ℕ → ℕ → Type 0
AreCounted bytes end at count = (f : FrameValue) → IsFrame f → bytes ≡ spelling f → Counted f bytes end at count

header_at : (f : FrameValue) (bytes : List ℕ) → IsFrame f → bytes ≡ spelling f → header_in bytes % 2048 ≡ length (all_spelled f.datagrams)
header_at f bytes w e =
    ap (λ bs. header_in bs % 2048) (e ∙ sym (append-nil (spelling f))) ∙ ap (λ n. n % 2048) (header_in-spelling f w []) ∙ header_word-mod f w

pub counted_none : (bytes : List ℕ) (end : ℕ) → end ≡ 16 + header_in bytes % 2048 → AreCounted bytes end 16 0
counted_none bytes end e f w is = record {
  rest = f.datagrams;
  valid = w.datagrams;
  counted = omega arith;
  there =
      ap (drop 16) (is ∙ sym (append-nil (spelling f)))
      ∙ drop-spelling f w []
      ∙ ap (λ bs. all_spelled f.datagrams ++ bs) (append-nil f.padding);
  ends = e ∙ ap (λ n. 16 + n) (header_at f bytes w is);
}

-- where a datagram is left, it lies within the bytes
within_one : (f : FrameValue) (bytes : List ℕ) (end at count : ℕ) → IsFrame f → Counted f bytes end at count → at < end → (at + 12 ≤ length bytes) × (count + 1 ≤ 124)
within_one f bytes end at count w c inside =
    let few = length-all_spelled-ge f.datagrams in
    let most = w.most in
    let some : 0 < length c.rest = some_datagram c.rest (omega (arith, c.ends)) in
    let least = length-all_spelled-ge c.rest in
    let there = ap length c.there in
    let long = length-append (all_spelled c.rest) f.padding in
    let rest = length-drop at bytes in
    (omega (arith, c.ends), omega (arith, c.counted))

pub within_frame : (bytes : List ℕ) → InGrammar bytes → (end at count : ℕ) → AreCounted bytes end at count → at < end → (at + 12 ≤ length bytes) × (count + 1 ≤ 124)
within_frame bytes g end at count are inside = within_one g.0 bytes end at count g.1.0 (are g.0 g.1.0 g.1.1) inside

length-frame : (f : FrameValue) (bytes : List ℕ) → IsFrame f → bytes ≡ spelling f → (16 ≤ length bytes) × (length bytes ≤ 1514)
length-frame f bytes w is =
    let size = ap length is ∙ length-spelling f w in
    (omega (arith, size), omega (arith, ap length is, length-spelling-le f w))

pub least_length : (bytes : List ℕ) → InGrammar bytes → 16 ≤ length bytes
least_length bytes g = (length-frame g.0 bytes g.1.0 g.1.1).0

pub most_length : (bytes : List ℕ) → InGrammar bytes → 0 + length bytes ≤ 1514
most_length bytes g = let h = (length-frame g.0 bytes g.1.0 g.1.1).1 in omega arith

next : (f : FrameValue) (bytes : List ℕ) (end at count n : ℕ) (ds : List DatagramValue) → All IsDatagram ds → count + length ds ≡ length f.datagrams → drop at bytes ≡ all_spelled ds ++ f.padding → end ≡ at + length (all_spelled ds) → n ≡ data_length (drop at bytes) → at < end → Counted f bytes end (at + (12 + n)) (count + 1)
unfolding all_spelled
next f bytes end at count n [] w a there e is inside = absurd (omega arith)
next f bytes end at count n (d ∷ ds) w a there e is inside =
    let valid = All-head IsDatagram d ds w in
    let h = more-lt ds in
    let cons = there ∙ all_spelled-cons d ds f.padding in
    let size : n ≡ length d.payload = is ∙ ap (λ bs. data_length bs) cons ∙ data_length-spelled (more ds) d (all_spelled ds ++ f.padding) h valid in
    let long : 12 + n ≡ length (spelled (more ds) d) = omega (arith, size, length-spelled (more ds) d) in
    record {
      rest = ds;
      valid = All-tail IsDatagram d ds w;
      counted = omega (arith, a);
      there =
          sym (drop-drop (12 + n) at bytes)
          ∙ ap (drop (12 + n)) cons
          ∙ drop_at (spelled (more ds) d) (all_spelled ds ++ f.padding) (12 + n) (sym long);
      ends = omega (arith, e, long, length-append (spelled (more ds) d) (all_spelled ds));
    }

pub counted_next : (bytes : List ℕ) (end at count n : ℕ) → n ≡ data_length (drop at bytes) → at < end → AreCounted bytes end at count → AreCounted bytes end (at + (12 + n)) (count + 1)
counted_next bytes end at count n is inside are f w e =
    let c = are f w e in
    next f bytes end at count n c.rest c.valid c.counted c.there c.ends is inside

pub counted_all : (f : FrameValue) (bytes : List ℕ) (end at count : ℕ) → end ≤ at → Counted f bytes end at count → count ≡ length f.datagrams
counted_all f bytes end at count h c =
    omega (arith, c.ends, c.counted, length-all_spelled-ge c.rest)

-- the bytes of a frame, and zeros behind, keep it
pub keeps_bytes : (f : FrameValue) (bytes kept : List ℕ) (count : ℕ) → IsFrame f → bytes ≡ spelling f → kept ≡ put 0 bytes (replicate 1514 0) → count ≡ length f.datagrams
    → Keeps (record { bytes = kept; len = length bytes; count = count }) f
unfolding kept_bytes
keeps_bytes f bytes kept count w is e counted = record {
  valid = w;
  bytes = e ∙ ap (λ bs. bytes ++ bs) (zeros_left (length bytes) 1514 0) ∙ ap (λ bs. bs ++ replicate (1514 - length bs) 0) is;
  len = ap length is;
  count = counted;
}
  where
    zeros_left : (n m z : ℕ) → drop (0 + n) (replicate m z) ≡ replicate (m - n) z
    zeros_left n m z = drop-replicate (0 + n) m z ∙ ap (λ i. replicate (m - i) z) (omega arith)

-- a frame of the grammar in its array
pub keeps_grammar : (bytes kept : List ℕ) (count : ℕ) → (g : InGrammar bytes) → kept ≡ put 0 bytes (replicate 1514 0) → ((f : FrameValue) → IsFrame f → bytes ≡ spelling f → count ≡ length f.datagrams)
    → Keeps (record { bytes = kept; len = length bytes; count = count }) g.0
keeps_grammar bytes kept count g e counted = keeps_bytes g.0 bytes kept count g.1.0 g.1.1 e (counted g.0 g.1.0 g.1.1)
