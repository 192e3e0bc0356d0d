-- The writes to the fields of a datagram.
use Rattle.std.specs.Int.{w8}
use Rattle.std.proofs.Common.{Fits, ◌≡◌, ℕ, ◌+◌, ◌^◌, ◌<◌, ◌≤◌, List, [], ◌∷◌, ◌++◌, length, take, drop, get_or, refl, sym, ap, ◌∙◌, arith}
use Rattle.std.proofs.lemmas.List.{append_assoc, append-nil, take-append-le, drop-append-le, drop_all, length-append, length-take, length-drop}
use Rattle.std.proofs.lemmas.List.Elements.{All-append, All-from_get_or, All-take, All-drop}
use Rattle.ecat_frame.specs.Changed.{put}
use Rattle.ecat_frame.specs.Commands.{code_of}
use Rattle.ecat_frame.specs.FrameGrammar.{AreBytes, DatagramValue, IsDatagram, spelled, word, length_word_of}
use Rattle.ecat_frame.proofs.Datagrams.{Writes, put_behind}
use Rattle.ecat_frame.proofs.Spelled.{spelled-append}

pub writes_adp : (adp : ℕ) (d : DatagramValue) → adp < 2 ^ 16 → IsDatagram d → Writes 2 (word adp) (λ e. record e { head = record e.head { adp = adp } }) d
writes_adp adp d h w = record {
  inside = omega arith;
  same_length = refl;
  valid = record { index = w.index; adp = h; ado = w.ado; flags = w.flags; size = w.size; irq = w.irq; payload = w.payload; wkc = w.wkc };
  writes = λ m xs. rw (spelled-append m d xs, spelled-append m (record d { head = record d.head { adp = adp } }) xs) refl;
}

-- the bytes before the data
heading : ℕ → DatagramValue → List ℕ
heading m d = code_of d.head.command ∷ d.head.index ∷ word d.head.adp ++ word d.head.ado ++ word (length_word_of m d) ++ word d.irq

spelled-heading : (m : ℕ) (d : DatagramValue) (xs : List ℕ) → spelled m d ++ xs ≡ heading m d ++ (d.payload ++ (word d.wkc ++ xs))
unfolding heading
spelled-heading m d xs = rw (spelled-append m d xs) refl

length-heading : (m : ℕ) (d : DatagramValue) → length (heading m d) ≡ 10
unfolding heading
length-heading m d = refl

-- a write behind the first bytes of a datagram
put-spelled : (m n : ℕ) (d : DatagramValue) (part xs : List ℕ) → put (10 + n) part (spelled m d ++ xs) ≡ heading m d ++ put n part (d.payload ++ (word d.wkc ++ xs))
put-spelled m n d part xs =
    rw (spelled-heading m d xs, ← length-heading m d) (put_behind (heading m d) (d.payload ++ (word d.wkc ++ xs)) part n)

pub writes_wkc : (wkc : ℕ) (d : DatagramValue) → wkc < 2 ^ 16 → IsDatagram d → Writes (10 + length d.payload) (word wkc) (λ e. record e { wkc = wkc }) d
unfolding heading
writes_wkc wkc d h w = record {
  inside = omega arith;
  same_length = refl;
  valid = record { index = w.index; adp = w.adp; ado = w.ado; flags = w.flags; size = w.size; irq = w.irq; payload = w.payload; wkc = h };
  writes = λ m xs.
      put-spelled m (length d.payload) d (word wkc) xs
      ∙ ap (λ ys. heading m d ++ ys) (let end : length d.payload ≡ length d.payload + 0 = omega arith in ap (λ n. put n (word wkc) (d.payload ++ (word d.wkc ++ xs))) end ∙ put_behind d.payload (word d.wkc ++ xs) (word wkc) 0)
      ∙ sym (spelled-heading m (record d { wkc = wkc }) xs);
}

put-append : (at : ℕ) (part xs ys : List ℕ) → at + length part ≤ length xs → put at part (xs ++ ys) ≡ put at part xs ++ ys
put-append at part xs ys h =
    let first : at ≤ length xs = omega arith in
    rw (take-append-le at xs ys first, drop-append-le (at + length part) xs ys h) (simp append_assoc)

length-put : (at : ℕ) (part xs : List ℕ) → at + length part ≤ length xs → length (put at part xs) ≡ length xs
length-put at part xs h = simp (length-append, length-take, length-drop) (omega arith)

pub bytes_known : (xs : List ℕ) → ((i : ℕ) → Fits w8 (get_or xs i 0)) → AreBytes xs
bytes_known xs h =
    All-from_get_or (λ b. b < 256) xs 0 (λ i _. let f : Fits w8 (get_or xs i 0) = h i in omega arith)

bytes_put : (at : ℕ) (part xs : List ℕ) → AreBytes part → AreBytes xs → AreBytes (put at part xs)
bytes_put at part xs p q =
    All-append (λ b. b < 256) (take at xs) (part ++ drop (at + length part) xs) (All-take (λ b. b < 256) at xs q)
    (All-append (λ b. b < 256) part (drop (at + length part) xs) p (All-drop (λ b. b < 256) (at + length part) xs q))

heading_same : (m : ℕ) (d : DatagramValue) (payload : List ℕ) → length payload ≡ length d.payload → heading m (record d { payload = payload }) ≡ heading m d
unfolding heading
heading_same m d payload e = rw e refl

pub writes_bytes : (at : ℕ) (part : List ℕ) (d : DatagramValue) → AreBytes part → at + length part ≤ length d.payload → IsDatagram d → Writes (10 + at) part (λ e. record e { payload = put at part e.payload }) d
writes_bytes at part d p h w =
    let same = length-put at part d.payload h in
    record {
      inside = omega arith;
      same_length = same;
      valid = record { index = w.index; adp = w.adp; ado = w.ado; flags = w.flags; size = rw same w.size; irq = w.irq; payload = bytes_put at part d.payload p w.payload; wkc = w.wkc };
      writes = λ m xs.
          put-spelled m at d part xs
          ∙ ap (λ ys. heading m d ++ ys) (put-append at part d.payload (word d.wkc ++ xs) h)
          ∙ ap (λ hs. hs ++ (put at part d.payload ++ (word d.wkc ++ xs))) (sym (heading_same m d (put at part d.payload) same))
          ∙ sym (spelled-heading m (record d { payload = put at part d.payload }) xs);
    }

put_all : (part xs : List ℕ) → length part ≡ length xs → put 0 part xs ≡ part
put_all part xs e =
    let none : drop (0 + length part) xs ≡ [] = drop_all (0 + length part) xs (omega arith) in
    ap (λ ys. part ++ ys) none ∙ append-nil part

pub writes_payload : (payload : List ℕ) (d : DatagramValue) → AreBytes payload → length payload ≡ length d.payload → IsDatagram d → Writes 10 payload (λ e. record e { payload = payload }) d
writes_payload payload d p e w =
    record {
      inside = omega arith;
      same_length = e;
      valid = record { index = w.index; adp = w.adp; ado = w.ado; flags = w.flags; size = rw e w.size; irq = w.irq; payload = p; wkc = w.wkc };
      writes = λ m xs.
          put-spelled m 0 d payload xs
          ∙ ap (λ ys. heading m d ++ ys) (put-append 0 payload d.payload (word d.wkc ++ xs) (omega arith) ∙ ap (λ ys. ys ++ (word d.wkc ++ xs)) (put_all payload d.payload e))
          ∙ ap (λ hs. hs ++ (payload ++ (word d.wkc ++ xs))) (sym (heading_same m d payload e))
          ∙ sym (spelled-heading m (record d { payload = payload }) xs);
    }
