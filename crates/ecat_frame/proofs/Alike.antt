-- Two frames that were compared up to some datagram.
use Rattle.std.proofs.Common.{◌≡◌, ◌∙◌, sym, ap, ℕ, ◌+◌, ◌%◌, ◌<◌, ◌≤◌, min, List, [], ◌∷◌, ◌++◌, length, map, drop, replicate, Some, None, slice_get, ◌⊎◌, refl, inl, inr, arith}
use Rattle.std.proofs.lemmas.Bool.{cases_lt}
use Rattle.std.proofs.lemmas.List.{drop_more, drop_all, length-append, length-replicate}
use Rattle.std.proofs.lemmas.Option.{slice_get_within, get_or_from_slice_get}
use Rattle.byteorder.specs.Endian.{little_number}
use Rattle.ecat_frame.specs.Commands.{code_of}
use Rattle.ecat_frame.specs.Difference.{first_apart, first_difference, wiped, wiped_datagram}
use Rattle.ecat_frame.specs.FrameGrammar.{DatagramValue, FrameValue, IsDatagram, IsFrame, all_spelled, header_word, length_word_of, more, spelled, spelling, word}
use Rattle.ecat_frame.specs.InsideDifference.{heading, without_circulating}
use Rattle.ecat_frame.specs.Reading.{seen}
use Rattle.ecat_frame.specs.declared.datagram.Datagram.{Datagram}
use Rattle.ecat_frame.proofs.Apart.{ahead, ahead_twice, apart_behind, apart_none, apart_before}
use Rattle.ecat_frame.proofs.Datagrams.{length-all_spelled-ge, more-lt}
use Rattle.ecat_frame.proofs.Spelled.{length-spelled, word_back}
use Rattle.ecat_frame.proofs.Spelling.{header_word-lt, header_word-mod}
use Rattle.ecat_frame.proofs.Wiped.{heading_of, length-heading_of, more_wiped, spelled-wiped, spelling-wiped}

same_word : (n m : ℕ) → n < 65536 → m < 65536 → word n ≡ word m → n ≡ m
same_word n m h k e = sym (word_back n h) ∙ ap (little_number 2) e ∙ word_back m k

drop_at_get : {X : Type 0} (xs : List X) (k : ℕ) (x : X) → slice_get xs k ≡ Some x → drop k xs ≡ x ∷ drop (k + 1) xs
drop_at_get xs k x e =
    drop_more xs k x (slice_get_within xs k x e) ∙ ap (λ y. y ∷ drop (k + 1) xs) (get_or_from_slice_get xs k x x e)

-- the wiped bytes from datagram k on
abbrev rest_of : FrameValue → ℕ → List ℕ
rest_of f k = all_spelled (map wiped_datagram (drop k f.datagrams))

abbrev size_from : FrameValue → ℕ → ℕ
size_from f k = length (all_spelled (drop k f.datagrams))

-- Before datagram k there is no difference, and it begins at this byte in both.
pub record Alike (f g : FrameValue) (k start : ℕ) : Type 0 where
  pub same : first_difference f g ≡ ahead start (first_apart (rest_of f k) (rest_of g k))
  pub place : start + size_from f k ≡ 16 + length (all_spelled f.datagrams)
  pub sizes : size_from f k ≡ size_from g k

abbrev front : List ℕ
front = 0 ∷ 0 ∷ 0 ∷ 0 ∷ 0 ∷ 0 ∷ 0 ∷ 0 ∷ 0 ∷ 0 ∷ 0 ∷ 0 ∷ 0x88 ∷ 0xA4 ∷ []

header_first : (f g : FrameValue) → first_difference f g ≡ ahead 14 (first_apart (word (header_word f) ++ rest_of f 0) (word (header_word g) ++ rest_of g 0))
unfolding first_difference
header_first f g =
    ap (λ bs. first_apart bs (spelling (wiped g))) (spelling-wiped f)
    ∙ ap (first_apart (front ++ (word (header_word f) ++ rest_of f 0))) (spelling-wiped g)
    ∙ apart_behind front (word (header_word f) ++ rest_of f 0) (word (header_word g) ++ rest_of g 0)

-- the header words differ
pub header_apart : (f g : FrameValue) (at : ℕ) → first_apart (word (header_word f)) (word (header_word g)) ≡ Some at → first_difference f g ≡ Some (14 + at)
header_apart f g at e =
    header_first f g ∙ ap (ahead 14) (apart_before (word (header_word f)) (word (header_word g)) (rest_of f 0) (rest_of g 0) at refl e)

-- they are the same
pub header_alike : (f g : FrameValue) → IsFrame f → IsFrame g → first_apart (word (header_word f)) (word (header_word g)) ≡ None → Alike f g 0 16
header_alike f g v w e =
    let words = apart_none (word (header_word f)) (word (header_word g)) e in
    let headers : header_word f ≡ header_word g = same_word (header_word f) (header_word g) (header_word-lt f v) (header_word-lt g w) words in
    record {
      same =
          header_first f g
          ∙ ap (λ bs. ahead 14 (first_apart (word (header_word f) ++ rest_of f 0) (bs ++ rest_of g 0))) (sym words)
          ∙ ap (ahead 14) (apart_behind (word (header_word f)) (rest_of f 0) (rest_of g 0))
          ∙ ahead_twice 14 2 (first_apart (rest_of f 0) (rest_of g 0));
      place = refl;
      sizes = sym (header_word-mod f v) ∙ ap (λ n. n % 2048) headers ∙ header_word-mod g w;
    }

-- a datagram as it was read
pub record Read (f : FrameValue) (k : ℕ) (d : Datagram) : Type 0 where
  pub is : slice_get f.datagrams k ≡ Some (seen d)
  pub length_word : d.length_word ≡ length_word_of (more (drop (k + 1) f.datagrams)) (seen d)
  pub valid : IsFrame f

datagram_valid : (f : FrameValue) (k : ℕ) (d : DatagramValue) → IsFrame f → slice_get f.datagrams k ≡ Some d → IsDatagram d
datagram_valid f k d w is =
    rw (get_or_from_slice_get f.datagrams k d d is) at (w.datagrams k d (slice_get_within f.datagrams k d is))

word_wiped : (m : ℕ) (d : DatagramValue) → m < 2 → IsDatagram d → without_circulating (length_word_of m d) ≡ length_word_of m (wiped_datagram d)
word_wiped m d h w =
    let z : ℕ = 0 in
    let long = length-replicate (length d.payload) z in
    let flags = w.flags in
    let size = w.size in
    omega arith

heading_is : (f : FrameValue) (k : ℕ) (d : Datagram) → Read f k d → heading d ≡ heading_of (more (drop (k + 1) f.datagrams)) (seen d)
unfolding heading heading_of
heading_is f k d r =
    let m = more (drop (k + 1) f.datagrams) in
    ap (λ (w : ℕ). code_of d.head.command ∷ d.head.index ∷ 0 ∷ 0 ∷ word d.head.ado ++ word w)
    (ap (λ (w : ℕ). without_circulating w) r.length_word ∙ word_wiped m (seen d) (more-lt (drop (k + 1) f.datagrams)) (datagram_valid f k (seen d) r.valid r.is))

-- what stands behind the head of datagram k
abbrev behind_head : FrameValue → ℕ → Datagram → List ℕ
behind_head f k d = 0 ∷ 0 ∷ (replicate (length d.payload.now) 0 ++ (0 ∷ 0 ∷ rest_of f (k + 1)))

rest_at : (f : FrameValue) (k : ℕ) (d : Datagram) → Read f k d → rest_of f k ≡ heading d ++ behind_head f k d
unfolding all_spelled
rest_at f k d r =
    let ds = drop (k + 1) f.datagrams in
    ap (λ es. all_spelled (map wiped_datagram es)) (drop_at_get f.datagrams k (seen d) r.is)
    ∙ ap (λ m. spelled m (wiped_datagram (seen d)) ++ all_spelled (map wiped_datagram ds)) (more_wiped ds)
    ∙ spelled-wiped (more ds) (seen d) (all_spelled (map wiped_datagram ds))
    ∙ ap (λ h. h ++ behind_head f k d) (sym (heading_is f k d r))

size_at : (f : FrameValue) (k : ℕ) (d : Datagram) → Read f k d → size_from f k ≡ 12 + length d.payload.now + size_from f (k + 1)
unfolding all_spelled
size_at f k d r =
    let ds = drop (k + 1) f.datagrams in
    ap (λ es. length (all_spelled es)) (drop_at_get f.datagrams k (seen d) r.is)
    ∙ omega (arith, length-append (spelled (more ds) (seen d)) (all_spelled ds), length-spelled (more ds) (seen d))

length-heading : (f : FrameValue) (k : ℕ) (d : Datagram) → Read f k d → length (heading d) ≡ 8
length-heading f k d r = ap length (heading_is f k d r) ∙ length-heading_of (more (drop (k + 1) f.datagrams)) (seen d)

-- two datagrams differ before the IRQ
pub heads_apart : (f g : FrameValue) (k start at : ℕ) (d e : Datagram) → Alike f g k start → Read f k d → Read g k e → first_apart (heading d) (heading e) ≡ Some at → first_difference f g ≡ Some (start + at)
heads_apart f g k start at d e a p q apart =
    a.same
    ∙ ap (λ bs. ahead start (first_apart bs (rest_of g k))) (rest_at f k d p)
    ∙ ap (λ bs. ahead start (first_apart (heading d ++ behind_head f k d) bs)) (rest_at g k e q)
    ∙ ap (ahead start) (apart_before (heading d) (heading e) (behind_head f k d) (behind_head g k e) at (length-heading f k d p ∙ sym (length-heading g k e q)) apart)

-- the length words of the same heads
words_of : (m n : ℕ) (d e : DatagramValue) → heading_of m d ≡ heading_of n e → word (length_word_of m (wiped_datagram d)) ≡ word (length_word_of n (wiped_datagram e))
unfolding heading_of
words_of m n d e h = ap (drop 6) h

lengths_of : (m n : ℕ) (d e : DatagramValue) → m < 2 → n < 2 → IsDatagram d → IsDatagram e → heading_of m d ≡ heading_of n e → length d.payload ≡ length e.payload
lengths_of m n d e h k v w same =
    let z : ℕ = 0 in
    let long = length-replicate (length d.payload) z in
    let long' = length-replicate (length e.payload) z in
    let size = v.size in
    let size' = w.size in
    let words : length_word_of m (wiped_datagram d) ≡ length_word_of n (wiped_datagram e) =
    same_word (length_word_of m (wiped_datagram d)) (length_word_of n (wiped_datagram e)) (omega arith) (omega arith) (words_of m n d e same) in
    omega arith

-- they are the same
pub heads_alike : (f g : FrameValue) (k start : ℕ) (d e : Datagram) → Alike f g k start → Read f k d → Read g k e → first_apart (heading d) (heading e) ≡ None → Alike f g (k + 1) (start + (12 + length d.payload.now))
heads_alike f g k start d e a p q none =
    let same : heading d ≡ heading e = apart_none (heading d) (heading e) none in
    let long : length d.payload.now ≡ length e.payload.now =
    lengths_of (more (drop (k + 1) f.datagrams)) (more (drop (k + 1) g.datagrams)) (seen d) (seen e) (more-lt (drop (k + 1) f.datagrams)) (more-lt (drop (k + 1) g.datagrams)) (datagram_valid f k (seen d) p.valid p.is) (datagram_valid g k (seen e) q.valid q.is)
    (sym (heading_is f k d p) ∙ same ∙ heading_is g k e q) in
    let n = length d.payload.now in
    let zeros : List ℕ = replicate n 0 in
    record {
      same =
          a.same
          ∙ ap (λ bs. ahead start (first_apart bs (rest_of g k))) (rest_at f k d p)
          ∙ ap (λ bs. ahead start (first_apart (heading d ++ behind_head f k d) bs)) (rest_at g k e q ∙ ap (λ h. h ++ behind_head g k e) (sym same) ∙ ap (λ i. heading d ++ (0 ∷ 0 ∷ (replicate i 0 ++ (0 ∷ 0 ∷ rest_of g (k + 1))))) (sym long))
          ∙ ap (ahead start) (whole (heading d) zeros (rest_of f (k + 1)) (rest_of g (k + 1)) (length-heading f k d p) (length-replicate n 0))
          ∙ ahead_twice start (12 + n) (first_apart (rest_of f (k + 1)) (rest_of g (k + 1)));
      place = let size = size_at f k d p in let place = a.place in omega arith;
      sizes = let size = size_at f k d p in let size' = size_at g k e q in let sizes = a.sizes in omega arith;
    }
  where
    whole : (h zs us vs : List ℕ) → length h ≡ 8 → length zs ≡ length d.payload.now → first_apart (h ++ (0 ∷ 0 ∷ (zs ++ (0 ∷ 0 ∷ us)))) (h ++ (0 ∷ 0 ∷ (zs ++ (0 ∷ 0 ∷ vs)))) ≡ ahead (12 + length d.payload.now) (first_apart us vs)
    whole h zs us vs eight n =
        apart_behind h (0 ∷ 0 ∷ (zs ++ (0 ∷ 0 ∷ us))) (0 ∷ 0 ∷ (zs ++ (0 ∷ 0 ∷ vs)))
        ∙ ap (ahead (length h)) (apart_behind (0 ∷ 0 ∷ []) (zs ++ (0 ∷ 0 ∷ us)) (zs ++ (0 ∷ 0 ∷ vs)) ∙ ap (ahead 2) (apart_behind zs (0 ∷ 0 ∷ us) (0 ∷ 0 ∷ vs) ∙ ap (ahead (length zs)) (apart_behind (0 ∷ 0 ∷ []) us vs)))
        ∙ ap (ahead (length h)) (ap (ahead 2) (ahead_twice (length zs) 2 (first_apart us vs)) ∙ ahead_twice 2 (length zs + 2) (first_apart us vs))
        ∙ ahead_twice (length h) (2 + (length zs + 2)) (first_apart us vs)
        ∙ ap (λ i. ahead i (first_apart us vs)) (omega arith)

pub one_of_both : (a b n : ℕ) → n ≡ min a b → (n ≡ a) ⊎ (n ≡ b)
one_of_both a b n e = elim (cases_lt a b) [ inl h ↦ inl (omega arith) | inr h ↦ inr (omega arith) ]

none_left : (f g : FrameValue) (k : ℕ) → drop k f.datagrams ≡ [] → size_from f k ≡ size_from g k → drop k g.datagrams ≡ []
unfolding all_spelled
none_left f g k none sizes =
    let zero_size : size_from g k ≡ 0 = sym sizes ∙ ap (λ ds. length (all_spelled ds)) none in
    empty (drop k g.datagrams) zero_size
  where
    empty : (ds : List DatagramValue) → length (all_spelled ds) ≡ 0 → ds ≡ []
    empty [] e = refl
    empty (d ∷ ds) e = let least = length-all_spelled-ge (d ∷ ds) in absurd (omega arith)

-- no datagram is left
pub all_alike : (f g : FrameValue) (k start n : ℕ) → Alike f g k start → n ≤ k → (n ≡ length f.datagrams) ⊎ (n ≡ length g.datagrams) → first_difference f g ≡ None
unfolding all_spelled
all_alike f g k start n a h (inl e) =
    let none : drop k f.datagrams ≡ [] = drop_all k f.datagrams (omega arith) in
    a.same ∙ rw (none, none_left f g k none a.sizes) refl
all_alike f g k start n a h (inr e) =
    let none : drop k g.datagrams ≡ [] = drop_all k g.datagrams (omega arith) in
    a.same ∙ rw (none, none_left g f k none (sym a.sizes)) refl
