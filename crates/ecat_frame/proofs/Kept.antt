-- A frame in its array: what is kept is read again, and what a write to a datagram leaves.
use Rattle.std.proofs.Common.{◌≡◌, ℕ, suc, add-one, ◌+◌, ◌-◌, ◌/◌, ◌%◌, ◌<◌, ◌≤◌, List, ◌∷◌, ◌++◌, length, take, drop, replicate, Some, slice_get, refl, sym, ap, ◌∙◌, arith}
use Rattle.std.proofs.lemmas.List.{append_assoc, drop-drop, length-drop, take_all, take_at, length-append, length-replicate}
use Rattle.ecat_frame.specs.Changed.{changed, modify, put}
use Rattle.ecat_frame.specs.FrameGrammar.{DatagramValue, FrameValue, IsDatagram, IsFrame, all_spelled, header_word, more, spelled, spelling, word}
use Rattle.ecat_frame.specs.InsideFrame.{BeginsAt, IsKept, header_in, kept_bytes, value_of}
use Rattle.ecat_frame.specs.Reading.{data_length, place_in, read_datagrams}
use Rattle.ecat_frame.specs.declared.frame.Frame.TheInside.{Inside}
use Rattle.ecat_frame.proofs.Changes.{All-modify, length-modify}
use Rattle.ecat_frame.proofs.Datagrams.{more-lt, Stands, Writes, stands, read_datagrams-all_spelled, put-all_spelled, put_behind, length-all_spelled-modify}
use Rattle.ecat_frame.proofs.Spelled.{Reads, data_length-spelled, length-spelled, reads_spelled}
use Rattle.ecat_frame.proofs.Spelling.{frame_path, take-spelling, take-drop-spelling, header_in-spelling, drop-spelling, drop-spelling-all, header_word-mod, header_word-div, length-spelling, spelling-append}

pub within_bytes : (at : ℕ) (bytes : List ℕ) (m : ℕ) (d : DatagramValue) (behind : List ℕ) → length bytes ≡ 1514 → drop at bytes ≡ spelled m d ++ behind → at + 12 + length d.payload ≤ 1514
within_bytes at bytes m d behind e there =
    omega (arith, ap length there, length-drop at bytes, length-append (spelled m d) behind, length-spelled m d)

-- the fields keep this frame
pub record Keeps (a : Inside) (f : FrameValue) : Type 0 where
  pub valid : IsFrame f
  pub bytes : a.bytes ≡ kept_bytes f
  pub len : a.len ≡ length (spelling f)
  pub count : a.count ≡ length f.datagrams

padding_back : (f : FrameValue) (len : ℕ) (xs : List ℕ) → IsFrame f → len ≡ length (spelling f) → take (len - (16 + header_in (spelling f ++ xs) % 2048)) (drop (16 + header_in (spelling f ++ xs) % 2048) (spelling f ++ xs)) ≡ f.padding
padding_back f len xs w e =
    let size : header_in (spelling f ++ xs) % 2048 ≡ length (all_spelled f.datagrams) = ap (λ n. n % 2048) (header_in-spelling f w xs) ∙ header_word-mod f w in
    let long : length f.padding ≡ len - (16 + length (all_spelled f.datagrams)) = omega (arith, length-spelling f w) in
    rw (size, drop-spelling-all f w xs) (take_at f.padding xs (len - (16 + length (all_spelled f.datagrams))) long)

-- and it is read again
pub value_of-kept : (a : Inside) (f : FrameValue) → Keeps a f → value_of a ≡ f
unfolding value_of kept_bytes
value_of-kept a f k =
    let xs = replicate (1514 - length (spelling f)) 0 in
    rw (k.bytes, k.count)
    (frame_path _ f.destination _ f.source _ f.reserved _ f.datagrams _ f.padding
    (take-spelling f k.valid xs)
    (take-drop-spelling f k.valid xs)
    (ap (λ n. n / 2048 % 2) (header_in-spelling f k.valid xs) ∙ header_word-div f k.valid)
    (ap (read_datagrams (length f.datagrams)) (drop-spelling f k.valid xs) ∙ read_datagrams-all_spelled f.datagrams (f.padding ++ xs) k.valid.datagrams)
    (padding_back f a.len xs k.valid k.len))

pub kept_from : (a : Inside) (f : FrameValue) → Keeps a f → IsKept a
kept_from a f k =
    let e = value_of-kept a f k in
    record { valid = rw e k.valid; bytes = rw e k.bytes; len = rw e k.len; count = rw e k.count }

pub keeps_value : (a : Inside) (f : FrameValue) → IsKept a → value_of a ≡ f → Keeps a f
keeps_value a f w e =
    rw e at (keeps_own a w)
  where
    keeps_own : (b : Inside) → IsKept b → Keeps b (value_of b)
    keeps_own b v = record { valid = v.valid; bytes = v.bytes; len = v.len; count = v.count }

pub length-spelling-le : (f : FrameValue) → IsFrame f → length (spelling f) ≤ 1514
length-spelling-le f w = omega (arith, length-spelling f w, w.most, w.padded)

pub length-kept_bytes : (f : FrameValue) → IsFrame f → length (kept_bytes f) ≡ 1514
unfolding kept_bytes
length-kept_bytes f w =
    let long = length-spelling f w in
    let most = w.most in
    let padded = w.padded in
    simp (length-append, length-replicate) (omega arith)

pub take-kept_bytes : (f : FrameValue) (n : ℕ) → n ≡ length (spelling f) → take n (kept_bytes f) ≡ spelling f
unfolding kept_bytes
take-kept_bytes f n e = take_at (spelling f) _ n (sym e)

pub drop-kept_bytes : (f : FrameValue) → IsFrame f → drop 16 (kept_bytes f) ≡ all_spelled f.datagrams ++ (f.padding ++ replicate (1514 - length (spelling f)) 0)
unfolding kept_bytes
drop-kept_bytes f w = drop-spelling f w (replicate (1514 - length (spelling f)) 0)

-- the header word in the array
pub header_in-kept : (a : Inside) (f : FrameValue) → Keeps a f → header_in a.bytes ≡ header_word f
unfolding kept_bytes
header_in-kept a f k = rw k.bytes (header_in-spelling f k.valid (replicate (1514 - length (spelling f)) 0))

-- where datagram k begins
pub begins_at : (a : Inside) (f : FrameValue) (k at : ℕ) → Keeps a f → k < length f.datagrams → at ≡ 16 + place_in k (drop 16 a.bytes) → BeginsAt f k at
begins_at a f k at w h e =
    let bytes = kept_bytes f in
    let s : Stands f.datagrams k (drop 16 bytes) = rw (drop-kept_bytes f w.valid) (stands f.datagrams k (f.padding ++ replicate (1514 - length (spelling f)) 0) w.valid.datagrams h) in
    let place : at ≡ 16 + place_in k (drop 16 bytes) = rw (← w.bytes) e in
    let there : drop at bytes ≡ spelled (more (drop (suc k) f.datagrams)) s.datagram ++ s.behind = ap (λ n. drop n bytes) place ∙ sym (drop-drop (place_in k (drop 16 bytes)) 16 bytes) ∙ s.spelled_there in
    record {
      datagram = s.datagram;
      behind = s.behind;
      is = s.is;
      valid = s.valid;
      place = place;
      there = rw add-one there;
      within = within_bytes at bytes (more (drop (suc k) f.datagrams)) s.datagram s.behind (length-kept_bytes f w.valid) there;
    }

-- the datagram there, in the array
pub there : (a : Inside) (f : FrameValue) (k at : ℕ) → Keeps a f → (b : BeginsAt f k at) → drop at a.bytes ≡ spelled (more (drop (k + 1) f.datagrams)) b.datagram ++ b.behind
there a f k at w b = ap (drop at) w.bytes ∙ b.there

pub data_length-there : (a : Inside) (f : FrameValue) (k at : ℕ) → Keeps a f → (b : BeginsAt f k at) → data_length (drop at a.bytes) ≡ length b.datagram.payload
data_length-there a f k at w b =
    ap (λ bs. data_length bs) (there a f k at w b) ∙ data_length-spelled _ b.datagram b.behind (more-lt (drop (k + 1) f.datagrams)) b.valid

pub reads_there : (a : Inside) (f : FrameValue) (k at n : ℕ) → Keeps a f → (b : BeginsAt f k at) → length (drop at a.bytes) ≤ n → Reads (take n (drop at a.bytes)) (more (drop (k + 1) f.datagrams)) b.datagram
reads_there a f k at n w b h =
    rw (take_all n (drop at a.bytes) h, there a f k at w b) (reads_spelled _ b.datagram b.behind (more-lt (drop (k + 1) f.datagrams)) b.valid)

IsFrame-changed : (f : FrameValue) (k at : ℕ) (part : List ℕ) (g : DatagramValue → DatagramValue) (d : DatagramValue) → IsFrame f → slice_get f.datagrams k ≡ Some d → Writes at part g d → IsFrame (changed k g f)
IsFrame-changed f k at part g d w is v =
    let size = length-all_spelled-modify f.datagrams k g d is v.same_length in
    record {
      destination = w.destination;
      source = w.source;
      reserved = w.reserved;
      datagrams = All-modify IsDatagram f.datagrams k g d is v.valid w.datagrams;
      least = rw size w.least;
      most = rw size w.most;
      padding = w.padding;
      padded = rw size w.padded;
    }

-- the bytes before the first datagram
unfoldable pub front : FrameValue → List ℕ
front f = f.destination ++ (f.source ++ (0x88 ∷ 0xA4 ∷ word (header_word f)))

pub length-front : (f : FrameValue) → IsFrame f → length (front f) ≡ 16
unfolding front
length-front f w = let a = w.destination.0 in let b = w.source.0 in simp length-append (omega arith)

pub kept_bytes-front : (f : FrameValue) (n : ℕ) → n ≡ 1514 - length (spelling f) → kept_bytes f ≡ front f ++ (all_spelled f.datagrams ++ (f.padding ++ replicate n 0))
unfolding kept_bytes front
kept_bytes-front f n e = rw (e, spelling-append f (replicate (1514 - length (spelling f)) 0)) (sym (simp append_assoc))

front-changed : (f : FrameValue) (k : ℕ) (g : DatagramValue → DatagramValue) → length (all_spelled (modify k g f.datagrams)) ≡ length (all_spelled f.datagrams) → front (changed k g f) ≡ front f
unfolding front
front-changed f k g e = rw e refl

-- what a write to datagram k keeps
pub keeps_changed : (a : Inside) (f : FrameValue) (k n at m : ℕ) (part bs : List ℕ) (g : DatagramValue → DatagramValue) → Keeps a f → (b : BeginsAt f k n) → Writes at part g b.datagram → m ≡ n + at → bs ≡ put m part a.bytes
    → Keeps (record { bytes = bs; len = a.len; count = a.count }) (changed k g f)
keeps_changed a f k n at m part bs g w b v e after =
    let h = IsFrame-changed f k at part g b.datagram w.valid b.is v in
    let size = length-all_spelled-modify f.datagrams k g b.datagram b.is v.same_length in
    let long : length (spelling (changed k g f)) ≡ length (spelling f) = length-spelling (changed k g f) h ∙ omega (arith, size, length-spelling f w.valid) in
    let rest = f.padding ++ replicate (1514 - length (spelling f)) 0 in
    let far : m ≡ length (front f) + (place_in k (all_spelled f.datagrams ++ rest) + at) = omega (arith, b.place, length-front f w.valid, ap (place_in k) (drop-kept_bytes f w.valid)) in
    record {
      valid = h;
      bytes =
          after
          ∙ ap (put m part) (w.bytes ∙ kept_bytes-front f (1514 - length (spelling f)) refl)
          ∙ ap (λ (i : ℕ). put i part (front f ++ (all_spelled f.datagrams ++ rest))) far
          ∙ put_behind (front f) (all_spelled f.datagrams ++ rest) part (place_in k (all_spelled f.datagrams ++ rest) + at)
          ∙ ap (λ bytes. front f ++ bytes) (put-all_spelled f.datagrams k at part rest g b.datagram w.valid.datagrams b.is v)
          ∙ ap (λ bytes. bytes ++ (all_spelled (modify k g f.datagrams) ++ rest)) (sym (front-changed f k g size))
          ∙ sym (kept_bytes-front (changed k g f) (1514 - length (spelling f)) (ap (λ i. 1514 - i) (sym long)));
      len = w.len ∙ sym long;
      count = w.count ∙ sym (length-modify k g f.datagrams);
    }
