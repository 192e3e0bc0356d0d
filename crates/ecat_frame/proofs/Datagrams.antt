-- The bytes of datagrams in front of others: where each stands, and what a write to one leaves.
use Rattle.std.proofs.Common.{◌≡◌, ℕ, zero, suc, ◌+◌, ◌*◌, ◌<◌, ◌≤◌, List, [], ◌∷◌, ◌++◌, length, take, drop, Some, slice_get, refl, ap, ◌∙◌, arith}
use Rattle.std.specs.List.{All}
use Rattle.std.proofs.Math.Seq.{take-append-add, drop-append-add}
use Rattle.std.proofs.lemmas.List.{append_assoc, length-append}
use Rattle.std.proofs.lemmas.List.Elements.{All-head, All-tail}
use Rattle.std.proofs.lemmas.List.Sums.{sum_by-cons}
use Rattle.ecat_frame.specs.Built.{size_of}
use Rattle.ecat_frame.specs.Changed.{modify, put}
use Rattle.ecat_frame.specs.FrameGrammar.{DatagramValue, IsDatagram, spelled, all_spelled, more}
use Rattle.ecat_frame.specs.Reading.{read_datagrams, place_in}
use Rattle.ecat_frame.proofs.Changes.{more-modify}
use Rattle.ecat_frame.proofs.Spelled.{first_datagram-spelled, behind_first-spelled, data_length-spelled, length-spelled}

pub more-lt : (ds : List DatagramValue) → more ds < 2
more-lt [] = omega arith
more-lt (d ∷ ds) = omega arith

pub cons_path : (d e : DatagramValue) (ds es : List DatagramValue) → d ≡ e → ds ≡ es → d ∷ ds ≡ e ∷ es
cons_path d e ds es p q = cc

pub all_spelled-cons : (d : DatagramValue) (ds : List DatagramValue) (xs : List ℕ) → all_spelled (d ∷ ds) ++ xs ≡ spelled (more ds) d ++ (all_spelled ds ++ xs)
unfolding all_spelled
all_spelled-cons d ds xs = append_assoc (spelled (more ds) d) (all_spelled ds) xs

-- one datagram read, and those behind it
pub read_datagrams-spelled : (n m : ℕ) (d : DatagramValue) (xs : List ℕ) → m < 2 → IsDatagram d → read_datagrams (suc n) (spelled m d ++ xs) ≡ d ∷ read_datagrams n xs
unfolding read_datagrams
read_datagrams-spelled n m d xs h w =
    cons_path _ d _ (read_datagrams n xs) (first_datagram-spelled m d xs h w) (ap (read_datagrams n) (behind_first-spelled m d xs h w))

-- what was spelled is read again
pub read_datagrams-all_spelled : (ds : List DatagramValue) (xs : List ℕ) → All IsDatagram ds → read_datagrams (length ds) (all_spelled ds ++ xs) ≡ ds
unfolding read_datagrams
read_datagrams-all_spelled [] xs w = refl
read_datagrams-all_spelled (d ∷ ds) xs w =
    ap (read_datagrams (suc (length ds))) (all_spelled-cons d ds xs)
    ∙ read_datagrams-spelled (length ds) (more ds) d (all_spelled ds ++ xs) (more-lt ds) (All-head IsDatagram d ds w)
    ∙ ap (λ es. d ∷ es) (read_datagrams-all_spelled ds xs (All-tail IsDatagram d ds w))

-- the place of a later datagram
pub place_in-spelled : (k m : ℕ) (d : DatagramValue) (xs : List ℕ) → m < 2 → IsDatagram d → place_in (suc k) (spelled m d ++ xs) ≡ length (spelled m d) + place_in k xs
unfolding place_in
place_in-spelled k m d xs h w =
    rw (behind_first-spelled m d xs h w) (omega (arith, data_length-spelled m d xs h w, length-spelled m d))

-- datagram k at its place
pub record Stands (ds : List DatagramValue) (k : ℕ) (bytes : List ℕ) : Type 0 where
  pub datagram : DatagramValue
  pub behind : List ℕ
  pub is : slice_get ds k ≡ Some datagram
  pub valid : IsDatagram datagram
  pub spelled_there : drop (place_in k bytes) bytes ≡ spelled (more (drop (suc k) ds)) datagram ++ behind

stands_further : (ds : List DatagramValue) (k m : ℕ) (d : DatagramValue) (xs : List ℕ) → m < 2 → IsDatagram d → Stands ds k xs → Stands (d ∷ ds) (suc k) (spelled m d ++ xs)
stands_further ds k m d xs h w s = record {
  datagram = s.datagram;
  behind = s.behind;
  is = s.is;
  valid = s.valid;
  spelled_there = rw (place_in-spelled k m d xs h w) (drop-append-add (spelled m d) xs (place_in k xs) ∙ s.spelled_there);
}

pub stands : (ds : List DatagramValue) (k : ℕ) (xs : List ℕ) → All IsDatagram ds → k < length ds → Stands ds k (all_spelled ds ++ xs)
unfolding place_in
stands [] k xs w h = absurd (omega arith)
stands (d ∷ ds) zero xs w h = record {
  datagram = d;
  behind = all_spelled ds ++ xs;
  is = refl;
  valid = All-head IsDatagram d ds w;
  spelled_there = all_spelled-cons d ds xs;
}
stands (d ∷ ds) (suc k) xs w h =
    rw (all_spelled-cons d ds xs) (stands_further ds k (more ds) d (all_spelled ds ++ xs) (more-lt ds) (All-head IsDatagram d ds w) (stands ds k xs (All-tail IsDatagram d ds w) (omega arith)))

-- a write of these bytes from this place in a datagram on makes that change
pub record Writes (at : ℕ) (part : List ℕ) (g : DatagramValue → DatagramValue) (d : DatagramValue) : Type 0 where
  pub inside : at + length part ≤ 12 + length d.payload
  pub same_length : length (g d).payload ≡ length d.payload
  pub valid : IsDatagram (g d)
  pub writes : (m : ℕ) (xs : List ℕ) → put at part (spelled m d ++ xs) ≡ spelled m (g d) ++ xs

-- a write behind a front
pub put_behind : (s xs part : List ℕ) (n : ℕ) → put (length s + n) part (s ++ xs) ≡ s ++ put n part xs
put_behind s xs part n =
    let far : length s + n + length part ≡ length s + (n + length part) = omega arith in
    rw (far, take-append-add s xs n, drop-append-add s xs (n + length part)) (append_assoc s (take n xs) _)

-- the bytes after a write to datagram k
pub put-all_spelled : (ds : List DatagramValue) (k at : ℕ) (part xs : List ℕ) (g : DatagramValue → DatagramValue) (d : DatagramValue) → All IsDatagram ds → slice_get ds k ≡ Some d → Writes at part g d
    → put (place_in k (all_spelled ds ++ xs) + at) part (all_spelled ds ++ xs) ≡ all_spelled (modify k g ds) ++ xs
unfolding place_in
put-all_spelled [] k at part xs g d w is v = cc
put-all_spelled (e ∷ ds) zero at part xs g d w is v =
    let same : e ≡ d = cc in
    let none : 0 + at ≡ at = omega arith in
    rw (none, all_spelled-cons e ds xs, same, all_spelled-cons (g d) ds xs) (v.writes (more ds) (all_spelled ds ++ xs))
put-all_spelled (e ∷ ds) (suc k) at part xs g d w is v =
    let h = more-lt ds in
    let valid = All-head IsDatagram e ds w in
    let rest = put-all_spelled ds k at part xs g d (All-tail IsDatagram e ds w) is v in
    let place = place_in-spelled k (more ds) e (all_spelled ds ++ xs) h valid in
    let far : length (spelled (more ds) e) + place_in k (all_spelled ds ++ xs) + at ≡ length (spelled (more ds) e) + (place_in k (all_spelled ds ++ xs) + at) = omega arith in
    rw (all_spelled-cons e ds xs, place, far, put_behind (spelled (more ds) e) (all_spelled ds ++ xs) part (place_in k (all_spelled ds ++ xs) + at), rest, all_spelled-cons e (modify k g ds) xs, more-modify k g ds) refl

pub length-all_spelled-modify : (ds : List DatagramValue) (k : ℕ) (g : DatagramValue → DatagramValue) (d : DatagramValue) → slice_get ds k ≡ Some d → length (g d).payload ≡ length d.payload → length (all_spelled (modify k g ds)) ≡ length (all_spelled ds)
unfolding all_spelled
length-all_spelled-modify [] k g d is s = refl
length-all_spelled-modify (e ∷ ds) zero g d is s =
    let same : e ≡ d = cc in
    rw same (omega (arith, length-append (spelled (more ds) (g d)) (all_spelled ds), length-append (spelled (more ds) d) (all_spelled ds), length-spelled (more ds) (g d), length-spelled (more ds) d))
length-all_spelled-modify (e ∷ ds) (suc k) g d is s =
    rw (more-modify k g ds) (omega (arith, length-append (spelled (more ds) e) (all_spelled ds), length-append (spelled (more ds) e) (all_spelled (modify k g ds)), length-all_spelled-modify ds k g d is s))

-- the bytes of datagrams by what they carry
pub length-all_spelled : (ds : List DatagramValue) → length (all_spelled ds) ≡ size_of ds
unfolding all_spelled
length-all_spelled [] = refl
length-all_spelled (d ∷ ds) =
    omega (arith, length-append (spelled (more ds) d) (all_spelled ds), length-spelled (more ds) d, length-all_spelled ds, sum_by-cons (λ e. 12 + length e.payload) d ds)

-- each has twelve bytes at least
pub length-all_spelled-ge : (ds : List DatagramValue) → 12 * length ds ≤ length (all_spelled ds)
unfolding all_spelled
length-all_spelled-ge [] = omega arith
length-all_spelled-ge (d ∷ ds) =
    omega (arith, length-append (spelled (more ds) d) (all_spelled ds), length-spelled (more ds) d, length-all_spelled-ge ds)

pub some_datagram : (ds : List DatagramValue) → 0 < length (all_spelled ds) → 0 < length ds
unfolding all_spelled
some_datagram [] h = absurd (omega arith)
some_datagram (d ∷ ds) h = omega arith
