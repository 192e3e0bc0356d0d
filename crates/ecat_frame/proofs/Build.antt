-- What a builder hands out is a frame of its datagrams.
use Rattle.std.proofs.Common.{◌≡◌, ℕ, suc, ◌+◌, ◌-◌, ◌%◌, ◌<◌, ◌≤◌, max, bit_and, List, [], ◌∷◌, ◌++◌, length, drop, replicate, refl, sym, ap, ◌∙◌, arith, rules}
use Rattle.std.specs.List.{All}
use Rattle.std.proofs.Math.Seq.{drop-append-add}
use Rattle.std.proofs.lemmas.List.{drop-drop, length-replicate, replicate-append-replicate}
use Rattle.std.proofs.lemmas.List.Elements.{All-from_recursion, All-replicate}
use Rattle.std.proofs.lemmas.Nat.{and_mask}
use Rattle.byteorder.specs.Endian.{little_number}
use Rattle.ecat_frame.specs.Built.{built, front_of}
use Rattle.ecat_frame.specs.Changed.{put}
use Rattle.ecat_frame.specs.FrameGrammar.{DatagramValue, IsDatagram, IsFrame, all_spelled, length_word_of, spelled, spelling, word}
use Rattle.ecat_frame.specs.InsideBuilder.{chained}
use Rattle.ecat_frame.specs.InsideFrame.{kept_bytes}
use Rattle.ecat_frame.specs.Reading.{place_in}
use Rattle.ecat_frame.specs.declared.builder.Builder.TheInside.{Inside}
use Rattle.ecat_frame.proofs.Chained.{closes, length-chained}
use Rattle.ecat_frame.proofs.Datagrams.{length-all_spelled-ge, put_behind}
use Rattle.ecat_frame.proofs.Filled.{Holds, length-held}
use Rattle.ecat_frame.proofs.Kept.{Keeps, front, kept_bytes-front, within_bytes}
use Rattle.ecat_frame.proofs.Spelled.{length_word-spelled}
use Rattle.ecat_frame.proofs.Spelling.{length-spelling}

-- the last datagram of a builder begins there, and so its more bit is cleared
pub record Closing (zs : List ℕ) (ds : List DatagramValue) (bytes : List ℕ) (at m : ℕ) : Type 0 where
  pub datagram : DatagramValue
  pub valid : IsDatagram datagram
  pub there : drop at bytes ≡ spelled 1 datagram ++ replicate m 0
  pub closed : put (at + 6) (word (length_word_of 0 datagram)) bytes ≡ zs ++ (all_spelled ds ++ replicate m 0)
  pub within : at + 12 ≤ 1514

closing_behind : (zs bytes : List ℕ) (ds : List DatagramValue) (k at m : ℕ) → bytes ≡ zs ++ (chained ds ++ replicate m 0) → length bytes ≡ 1514 → All IsDatagram ds → length ds ≡ suc k → at ≡ length zs + place_in k (chained ds ++ replicate m 0) → Closing zs ds bytes at m
closing_behind zs bytes ds k at m b size w e f =
    let s = closes ds k (replicate m 0) w e in
    let far : at + 6 ≡ length zs + (place_in k (chained ds ++ replicate m 0) + 6) = omega arith in
    let there : drop at bytes ≡ spelled 1 s.datagram ++ replicate m 0 = rw (b, f) (drop-append-add zs (chained ds ++ replicate m 0) (place_in k (chained ds ++ replicate m 0)) ∙ s.there) in
    record {
      datagram = s.datagram;
      valid = s.valid;
      there = there;
      closed =
          ap (put (at + 6) (word (length_word_of 0 s.datagram))) b
          ∙ ap (λ (n : ℕ). put n (word (length_word_of 0 s.datagram)) (zs ++ (chained ds ++ replicate m 0))) far
          ∙ put_behind zs (chained ds ++ replicate m 0) (word (length_word_of 0 s.datagram)) (place_in k (chained ds ++ replicate m 0) + 6)
          ∙ ap (λ bs. zs ++ bs) s.closed;
      within = omega (arith, within_bytes at bytes 1 s.datagram (replicate m 0) size there);
    }

pub closing : (a : Inside) (ds : List DatagramValue) (at : ℕ) → Holds a ds → 0 < length ds → at ≡ 16 + place_in (a.count - 1) (drop 16 a.bytes) → Closing (replicate 16 0) ds a.bytes at (1514 - a.len)
closing a ds at h some e =
    let behind : drop 16 a.bytes ≡ chained ds ++ replicate (1514 - a.len) 0 = ap (drop 16) h.bytes in
    closing_behind (replicate 16 0) a.bytes ds (a.count - 1) at (1514 - a.len) h.bytes (length-held a ds h) h.datagrams (omega (arith, h.count)) (rw behind at e)

-- the length word without the more bit
pub cleared : (at m : ℕ) (bytes : List ℕ) (d : DatagramValue) (w : ℕ) → IsDatagram d → drop at bytes ≡ spelled 1 d ++ replicate m 0 → w ≡ little_number 2 (drop (at + 6) bytes) → bit_and w 32767 ≡ length_word_of 0 d
cleared at m bytes d w v there e =
    let read : w ≡ length_word_of 1 d =
    e ∙ ap (little_number 2) (sym (drop-drop 6 at bytes)) ∙ ap (λ bs. little_number 2 (drop 6 bs)) there ∙ length_word-spelled 1 d (replicate m 0) (omega arith) v in
    and_mask w 15 ∙ ap (λ n. n % 32768) read ∙ omega (arith, v.flags, v.size)

-- a frame that was built is one of the grammar
pub IsFrame-built : (ds : List DatagramValue) → All IsDatagram ds → 0 < length ds → length (all_spelled ds) ≤ 1498 → IsFrame (built ds)
IsFrame-built ds w some most = record {
  destination = (refl, All-replicate (λ b. b < 256) 6 255 (omega arith));
  source = (refl, All-from_recursion (λ b. b < 256) (2 ∷ 0 ∷ 0 ∷ 0 ∷ 0 ∷ 1 ∷ []) (search rules));
  reserved = omega arith;
  datagrams = w;
  least = omega (arith, length-all_spelled-ge ds);
  most = most;
  padding = All-replicate (λ b. b < 256) (60 - (16 + length (all_spelled ds))) 0 (omega arith);
  padded = let n = 60 - (16 + length (all_spelled ds)) in let z : ℕ = 0 in omega (arith, length-replicate n z);
}

pub length-spelling-built : (ds : List DatagramValue) → All IsDatagram ds → 0 < length ds → length (all_spelled ds) ≤ 1498 → length (spelling (built ds)) ≡ max (16 + length (all_spelled ds)) 60
length-spelling-built ds w some most =
    let n = 60 - (16 + length (all_spelled ds)) in
    let z : ℕ = 0 in
    length-spelling (built ds) (IsFrame-built ds w some most) ∙ omega (arith, length-replicate n z)

-- its bytes: the front, the datagrams, and zeros
pub kept_bytes-built : (ds : List DatagramValue) (n m : ℕ) → All IsDatagram ds → 0 < length ds → n ≡ length (all_spelled ds) → n ≤ 1498 → m ≡ 1514 - (16 + n) → kept_bytes (built ds) ≡ front_of n ++ (all_spelled ds ++ replicate m 0)
unfolding front
kept_bytes-built ds n m w some e most f =
    let z : ℕ = 0 in
    let p = 60 - (16 + length (all_spelled ds)) in
    let q = 1514 - length (spelling (built ds)) in
    let zeros : replicate p z ++ replicate q z ≡ replicate m z = replicate-append-replicate p q z ∙ ap (λ i. replicate i z) (omega (arith, length-spelling-built ds w some (omega arith))) in
    let size : length (all_spelled ds) + 0 + 4096 ≡ n + 4096 = omega arith in
    kept_bytes-front (built ds) q refl ∙ rw (zeros, size) refl

pub keeps_built : (a : Inside) (ds : List DatagramValue) (at w len : ℕ) (b1 b2 : List ℕ) → Holds a ds → 0 < length ds → at ≡ 16 + place_in (a.count - 1) (drop 16 a.bytes) → w ≡ little_number 2 (drop (at + 6) a.bytes) → b1 ≡ put (at + 6) (word (bit_and w 32767)) a.bytes → b2 ≡ front_of (a.len - 16) ++ drop 16 b1 → len ≡ max a.len 60
    → Keeps (record { bytes = b2; len = len; count = a.count }) (built ds)
keeps_built a ds at w len b1 b2 h some place read e1 e2 long =
    let l = closing a ds at h some place in
    let size : a.len - 16 ≡ length (all_spelled ds) = omega (arith, h.len, length-chained ds) in
    let most : length (all_spelled ds) ≤ 1498 = omega (arith, h.len, h.room, length-chained ds) in
    let word_cleared = cleared at (1514 - a.len) a.bytes l.datagram w l.valid l.there read in
    let closed : b1 ≡ replicate 16 0 ++ (all_spelled ds ++ replicate (1514 - a.len) 0) = e1 ∙ ap (λ (x : ℕ). put (at + 6) (word x) a.bytes) word_cleared ∙ l.closed in
    record {
      valid = IsFrame-built ds h.datagrams some most;
      bytes =
          e2
          ∙ ap (λ bs. front_of (a.len - 16) ++ drop 16 bs) closed
          ∙ sym (kept_bytes-built ds (a.len - 16) (1514 - a.len) h.datagrams some size (omega arith) (omega (arith, h.len)));
      len = long ∙ omega (arith, size, h.len, length-spelling-built ds h.datagrams some most);
      count = h.count;
    }
