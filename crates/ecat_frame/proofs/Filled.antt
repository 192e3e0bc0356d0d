-- A builder in its array.
use Rattle.std.proofs.Common.{◌≡◌, ℕ, ◌+◌, ◌-◌, ◌≤◌, List, [], ◌∷◌, ◌++◌, length, drop, replicate, refl, sym, ap, ◌∙◌, arith}
use Rattle.std.specs.List.{All}
use Rattle.std.proofs.lemmas.List.{append_assoc, drop-replicate, length-append, length-replicate, length_push, replicate-append-replicate}
use Rattle.std.proofs.lemmas.List.Elements.{All-nil, All-push}
use Rattle.ecat_frame.specs.Changed.{put}
use Rattle.ecat_frame.specs.FrameGrammar.{DatagramValue, IsDatagram, spelled}
use Rattle.ecat_frame.specs.InsideBuilder.{IsFilled, chained, datagrams_of}
use Rattle.ecat_frame.specs.declared.builder.Builder.TheInside.{Inside}
use Rattle.ecat_frame.proofs.Chained.{chained-push, read_datagrams-chained}
use Rattle.ecat_frame.proofs.Datagrams.{put_behind}
use Rattle.ecat_frame.proofs.Spelled.{length-spelled}

-- the fields hold these datagrams
pub record Holds (a : Inside) (ds : List DatagramValue) : Type 0 where
  pub datagrams : All IsDatagram ds
  pub bytes : a.bytes ≡ replicate 16 0 ++ (chained ds ++ replicate (1514 - a.len) 0)
  pub len : a.len ≡ 16 + length (chained ds)
  pub count : a.count ≡ length ds
  pub room : a.len ≤ 1514

pub datagrams_of-filled : (a : Inside) (ds : List DatagramValue) → Holds a ds → datagrams_of a ≡ ds
unfolding datagrams_of
datagrams_of-filled a ds h = rw (h.bytes, h.count) (read_datagrams-chained ds (replicate (1514 - a.len) 0) h.datagrams)

pub filled_from : (a : Inside) (ds : List DatagramValue) → Holds a ds → IsFilled a
filled_from a ds h =
    let e = datagrams_of-filled a ds h in
    record { datagrams = rw e h.datagrams; bytes = rw e h.bytes; len = rw e h.len; count = rw e h.count; room = h.room }

pub holds_value : (a : Inside) (ds : List DatagramValue) → IsFilled a → datagrams_of a ≡ ds → Holds a ds
holds_value a ds w e =
    rw e at (holds_own a w)
  where
    holds_own : (b : Inside) → IsFilled b → Holds b (datagrams_of b)
    holds_own b v = record { datagrams = v.datagrams; bytes = v.bytes; len = v.len; count = v.count; room = v.room }

pub length-held : (a : Inside) (ds : List DatagramValue) → Holds a ds → length a.bytes ≡ 1514
length-held a ds h =
    let z : ℕ = 0 in
    ap length h.bytes ∙ omega (arith, length-append (chained ds) (replicate (1514 - a.len) z), length-replicate (1514 - a.len) z, h.len, h.room)

zeros_split : (n m z : ℕ) → n ≡ 16 + m → replicate n z ≡ replicate 16 z ++ replicate m z
zeros_split n m z e = rw e (sym (replicate-append-replicate 16 m z))

-- a part written over the first zeros
zeros_written : (zs ls part : List ℕ) (n m : ℕ) → n ≡ length zs + length ls → put n part (zs ++ (ls ++ replicate m 0)) ≡ zs ++ ((ls ++ part) ++ replicate (m - length part) 0)
zeros_written zs ls part n m e =
    let z : ℕ = 0 in
    let far : n ≡ length zs + (length ls + 0) = omega arith in
    let rest : drop (0 + length part) (replicate m z) ≡ replicate (m - length part) z = drop-replicate (0 + length part) m z ∙ ap (λ i. replicate (m - i) z) (omega arith) in
    ap (λ (i : ℕ). put i part (zs ++ (ls ++ replicate m 0))) far
    ∙ put_behind zs (ls ++ replicate m 0) part (length ls + 0)
    ∙ ap (λ bs. zs ++ bs) (put_behind ls (replicate m 0) part 0 ∙ ap (λ bs. ls ++ (part ++ bs)) rest ∙ sym (append_assoc ls part (replicate (m - length part) 0)))

-- a builder with no datagram
pub holds_none : (n : ℕ) (bytes : List ℕ) → n ≡ 1514 → bytes ≡ replicate n 0 → Holds (record { bytes = bytes; len = 16; count = 0 }) []
unfolding chained
holds_none n bytes e f = record {
  datagrams = All-nil IsDatagram;
  bytes = f ∙ zeros_split n 1498 0 (omega arith);
  len = refl;
  count = refl;
  room = omega arith;
}

-- one more
pub holds_more : (a : Inside) (ds : List DatagramValue) (d : DatagramValue) (bytes : List ℕ) (len : ℕ) → Holds a ds → IsDatagram d → bytes ≡ put a.len (spelled 1 d) a.bytes → len ≡ a.len + (12 + length d.payload) → len ≤ 1514
    → Holds (record { bytes = bytes; len = len; count = a.count + 1 }) (ds ++ d ∷ [])
holds_more a ds d bytes len h w e f room = record {
  datagrams = All-push IsDatagram ds d h.datagrams w;
  bytes =
      e
      ∙ ap (put a.len (spelled 1 d)) h.bytes
      ∙ zeros_written (replicate 16 0) (chained ds) (spelled 1 d) a.len (1514 - a.len) h.len
      ∙ ap (λ bs. replicate 16 0 ++ (bs ++ replicate (1514 - a.len - length (spelled 1 d)) 0)) (sym (chained-push ds d))
      ∙ ap (λ n. replicate 16 0 ++ (chained (ds ++ d ∷ []) ++ replicate n 0)) (omega (arith, length-spelled 1 d));
  len = f ∙ rw (chained-push ds d) (omega (arith, h.len, length-append (chained ds) (spelled 1 d), length-spelled 1 d));
  count = ap (λ n. n + 1) h.count ∙ sym (length_push ds d);
  room = room;
}
