-- The bytes of datagrams that each have the more bit.
use Rattle.std.proofs.Common.{◌≡◌, ℕ, zero, suc, ◌+◌, List, [], ◌∷◌, ◌++◌, length, drop, refl, sym, ap, ◌∙◌, arith}
use Rattle.std.specs.List.{All}
use Rattle.std.proofs.Math.Seq.{drop-append-add}
use Rattle.std.proofs.lemmas.List.{append_assoc, append-nil, length-append}
use Rattle.std.proofs.lemmas.List.Elements.{All-head, All-tail}
use Rattle.ecat_frame.specs.Changed.{put}
use Rattle.ecat_frame.specs.FrameGrammar.{DatagramValue, IsDatagram, all_spelled, length_word_of, more, spelled, word}
use Rattle.ecat_frame.specs.InsideBuilder.{chained}
use Rattle.ecat_frame.specs.Reading.{place_in, read_datagrams}
use Rattle.ecat_frame.proofs.Datagrams.{all_spelled-cons, place_in-spelled, put_behind, read_datagrams-spelled}
use Rattle.ecat_frame.proofs.Spelled.{length-spelled, spelled-append}

chained-cons : (d : DatagramValue) (ds : List DatagramValue) (xs : List ℕ) → chained (d ∷ ds) ++ xs ≡ spelled 1 d ++ (chained ds ++ xs)
unfolding chained
chained-cons d ds xs = append_assoc (spelled 1 d) (chained ds) xs

pub chained-push : (ds : List DatagramValue) (d : DatagramValue) → chained (ds ++ d ∷ []) ≡ chained ds ++ spelled 1 d
unfolding chained
chained-push [] d = append-nil (spelled 1 d)
chained-push (e ∷ ds) d = ap (λ bs. spelled 1 e ++ bs) (chained-push ds d) ∙ sym (append_assoc (spelled 1 e) (chained ds) (spelled 1 d))

pub length-chained : (ds : List DatagramValue) → length (chained ds) ≡ length (all_spelled ds)
unfolding chained all_spelled
length-chained [] = refl
length-chained (d ∷ ds) =
    omega (arith, length-append (spelled 1 d) (chained ds), length-append (spelled (more ds) d) (all_spelled ds), length-spelled 1 d, length-spelled (more ds) d, length-chained ds)

pub read_datagrams-chained : (ds : List DatagramValue) (xs : List ℕ) → All IsDatagram ds → read_datagrams (length ds) (chained ds ++ xs) ≡ ds
unfolding read_datagrams
read_datagrams-chained [] xs w = refl
read_datagrams-chained (d ∷ ds) xs w =
    ap (read_datagrams (suc (length ds))) (chained-cons d ds xs)
    ∙ read_datagrams-spelled (length ds) 1 d (chained ds ++ xs) (omega arith) (All-head IsDatagram d ds w)
    ∙ ap (λ es. d ∷ es) (read_datagrams-chained ds xs (All-tail IsDatagram d ds w))

-- the last of the datagrams in these bytes, and what clearing its more bit leaves
pub record Closes (ds : List DatagramValue) (k : ℕ) (bytes xs : List ℕ) : Type 0 where
  pub datagram : DatagramValue
  pub valid : IsDatagram datagram
  pub there : drop (place_in k bytes) bytes ≡ spelled 1 datagram ++ xs
  pub closed : put (place_in k bytes + 6) (word (length_word_of 0 datagram)) bytes ≡ all_spelled ds ++ xs

more_cleared : (d : DatagramValue) (xs : List ℕ) → put 6 (word (length_word_of 0 d)) (spelled 1 d ++ xs) ≡ spelled 0 d ++ xs
more_cleared d xs = rw (spelled-append 1 d xs, spelled-append 0 d xs) refl

closes_further : (d : DatagramValue) (ds : List DatagramValue) (k : ℕ) (bytes xs : List ℕ) → IsDatagram d → more ds ≡ 1 → Closes ds k bytes xs → Closes (d ∷ ds) (suc k) (spelled 1 d ++ bytes) xs
closes_further d ds k bytes xs w one s =
    let place = place_in-spelled k 1 d bytes (omega arith) w in
    let far : place_in (suc k) (spelled 1 d ++ bytes) + 6 ≡ length (spelled 1 d) + (place_in k bytes + 6) = omega (arith, place) in
    record {
      datagram = s.datagram;
      valid = s.valid;
      there = rw place (drop-append-add (spelled 1 d) bytes (place_in k bytes) ∙ s.there);
      closed =
          ap (λ (n : ℕ). put n (word (length_word_of 0 s.datagram)) (spelled 1 d ++ bytes)) far
          ∙ put_behind (spelled 1 d) bytes (word (length_word_of 0 s.datagram)) (place_in k bytes + 6)
          ∙ ap (λ bs. spelled 1 d ++ bs) s.closed
          ∙ ap (λ m. spelled m d ++ (all_spelled ds ++ xs)) (sym one)
          ∙ sym (all_spelled-cons d ds xs);
    }

pub closes : (ds : List DatagramValue) (k : ℕ) (xs : List ℕ) → All IsDatagram ds → length ds ≡ suc k → Closes ds k (chained ds ++ xs) xs
unfolding chained all_spelled place_in
closes [] k xs w e = absurd (omega arith)
closes (d ∷ []) zero xs w e = record {
  datagram = d;
  valid = All-head IsDatagram d [] w;
  there = rw (append-nil (spelled 1 d)) refl;
  closed = rw (append-nil (spelled 1 d), append-nil (spelled 0 d)) (more_cleared d xs);
}
closes (d ∷ []) (suc k) xs w e = absurd (omega arith)
closes (d ∷ f ∷ ds) zero xs w e = absurd (omega arith)
closes (d ∷ f ∷ ds) (suc k) xs w e =
    rw (chained-cons d (f ∷ ds) xs) (closes_further d (f ∷ ds) k (chained (f ∷ ds) ++ xs) xs (All-head IsDatagram d (f ∷ ds) w) refl (closes (f ∷ ds) k xs (All-tail IsDatagram d (f ∷ ds) w) (omega arith)))
