-- Bytes that are read to the end are a frame.
use Rattle.std.proofs.Common.{◌≡◌, ℕ, suc, zero, ◌+◌, ◌-◌, ◌*◌, ◌/◌, ◌%◌, ◌<◌, ◌≤◌, ◌⊎◌, ◌&&◌, ◌||◌, not, Bool, true, false, cond, eqb, nat_lt, nat_le, List, [], ◌∷◌, ◌++◌, length, take, drop, get_or, slice_index_or, Result, Ok, Err, refl, arith, rules, sym, ap, ◌∙◌, inl, inr, subst, append_assoc, append-nil}
use Rattle.std.specs.List.{All}
use Rattle.std.proofs.lemmas.List.{length-append, length-take, length-drop, take-append-drop, drop-drop}
use Rattle.std.proofs.lemmas.List.Elements.{All-cons, All-drop, All-head, All-nil, All-tail, All-take}
use Rattle.std.proofs.lemmas.Bool.{cases_lt}
use Rattle.std.proofs.lemmas.Bool.Decides.{nat_tests}
use Rattle.ecat_frame.specs.Commands.{code_of, commands}
use Rattle.ecat_frame.specs.FrameGrammar.{AreBytes, DatagramValue, FrameValue, InGrammar, IsDatagram, all_spelled, header_word, length_word_of, more, spelled, spelling, word}
use Rattle.ecat_frame.specs.FramePart.{Part}
use Rattle.ecat_frame.specs.Refusals.{Reaches, after_header, behind, room_for, step}
use Rattle.ecat_frame.specs.Refusals as reason
use Rattle.ecat_frame.specs.declared.command.Command.{Command}
use Rattle.ecat_frame.specs.declared.command.Command.TheVariants.{Nop}
use Rattle.ecat_frame.specs.FramePart as part
use Rattle.ecat_frame.proofs.FrameRead.{FitsLeft, behind_last, behind_more}
use Rattle.ecat_frame.proofs.Spelled.{length-spelled, spelled-append}

abbrev IsByte : ℕ → Type 0
IsByte b = b < 256

-- a test that did not refuse
guard : {E T : Type 0} (t : Bool) (e : E) (x : Result T E) (y : T) → cond t (Err e) x ≡ Ok y → (t ≡ false) × (x ≡ Ok y)
guard true e x y h = cc
guard false e x y h = (refl, h)

guard_yes : {E T : Type 0} (t : Bool) (e : E) (x : Result T E) (y : T) → cond t x (Err e) ≡ Ok y → (t ≡ true) × (x ≡ Ok y)
guard_yes true e x y h = (refl, h)
guard_yes false e x y h = cc

-- the first of the bytes that lead from a place to the end
pub record First (p : Part) (bytes : List ℕ) (room : ℕ) : Type 0 where
  pub byte : ℕ
  pub rest : List ℕ
  pub is : bytes ≡ byte ∷ rest
  pub to : Part
  pub stepped : step p byte ≡ Ok to
  pub goes : Reaches to rest (part.Padding room)

abbrev is_padding : Part → Bool
is_padding (part.Padding r) = true
is_padding _ = false

first_of : (p : Part) (bytes : List ℕ) (room : ℕ) → is_padding p ≡ false → Reaches p bytes (part.Padding room) → First p bytes room
first_of p [] room e h = let f : is_padding p ≡ true = ap is_padding h in cc
first_of p (b ∷ bs) room e h = record { byte = b; rest = bs; is = refl; to = h.0; stepped = h.1.0; goes = h.1.1 }

padding_inverse : (r : ℕ) (xs : List ℕ) (room : ℕ) → Reaches (part.Padding r) xs (part.Padding room) → length xs ≤ r
padding_inverse r [] room h = omega arith
padding_inverse r (x ∷ xs) room h =
    let g = guard (eqb r 0) reason.TooLong (Ok (part.Padding (r - 1))) h.0 h.1.0 in
    let m : h.0 ≡ part.Padding (r - 1) = cc in
    let rest : length xs ≤ r - 1 = padding_inverse (r - 1) xs room (subst (λ p. Reaches p xs (part.Padding room)) m h.1.1) in
    let some : 0 < r = positive r g.0 in
    omega arith
  where
    positive : (n : ℕ) → eqb n 0 ≡ false → 0 < n
    positive n e = grind (arith, nat_tests)

body_inverse : (room left body : ℕ) (xs : List ℕ) (end : ℕ) → 0 < body → Reaches (part.Body room left body) xs (part.Padding end) → (body ≤ length xs) × Reaches (behind room left) (drop body xs) (part.Padding end)
body_inverse room left body [] end some h = cc
body_inverse room left body (x ∷ xs) end some h =
    elim (cases_lt 1 body) [
      | inl long ↦
          let e : nat_lt 1 body ≡ true = search (rules, nat_tests) in
          let m : h.0 ≡ part.Body room left (body - 1) = let s = h.1.0 in let t : step (part.Body room left body) x ≡ Ok (part.Body room left (body - 1)) = rw e refl in cc in
          let rest = body_inverse room left (body - 1) xs end (omega arith) (subst (λ p. Reaches p xs (part.Padding end)) m h.1.1) in
          let f : suc (body - 1) ≡ body = omega arith in
          (omega (arith, rest.0), rw (← f) rest.1)
      | inr last ↦
          let one : body ≡ 1 = omega arith in
          let e : nat_lt 1 body ≡ false = search (rules, nat_tests) in
          let m : h.0 ≡ behind room left = let s = h.1.0 in let t : step (part.Body room left body) x ≡ Ok (behind room left) = rw e refl in cc in
          (omega arith, rw one (subst (λ p. Reaches p xs (part.Padding end)) m h.1.1))
    ]

low_inverse : (room left b : ℕ) (m : Part) → step (part.LengthLow room left) b ≡ Ok m → m ≡ part.LengthHigh room left b
low_inverse room left b m h =
    let one = guard (nat_lt left (12 + b)) _ _ m h in
    let two = guard (nat_lt (12 + b) left && nat_lt left (24 + b)) _ _ m one.1 in
    cc

fits_from : (left w : ℕ) → w < 65536 → nat_lt left (12 + w % 2048) ≡ false → (not (nat_le 32768 w) && nat_lt (12 + w % 2048) left) ≡ false → (nat_le 32768 w && nat_lt left (24 + w % 2048)) ≡ false → FitsLeft left w
fits_from left w small a b c = record {
  within = grind (arith, nat_tests);
  follows = elim (cases_lt w 32768) [
    | inl last ↦
        let l : nat_le 32768 w ≡ false = search (rules, nat_tests) in
        let q : nat_lt (12 + w % 2048) left ≡ false = rw l at b in
        inl (omega arith, grind (arith, nat_tests))
    | inr next ↦
        let l : nat_le 32768 w ≡ true = search (rules, nat_tests) in
        let q : nat_lt left (24 + w % 2048) ≡ false = rw l at c in
        inr (omega arith, grind (arith, nat_tests))
  ];
}

high_inverse : (room left low b : ℕ) (m : Part) → low < 256 → b < 256 → step (part.LengthHigh room left low) b ≡ Ok m → FitsLeft left (low + 256 * b) × (m ≡ part.Body room (left - (12 + (low + 256 * b) % 2048)) ((low + 256 * b) % 2048 + 4))
high_inverse room left low b m small byte h =
    let w = low + 256 * b in
    let one = guard (nat_lt left (12 + w % 2048)) _ _ m h in
    let two = guard (not (nat_le 32768 w) && nat_lt (12 + w % 2048) left) _ _ m one.1 in
    let three = guard (nat_le 32768 w && nat_lt left (24 + w % 2048)) _ _ m two.1 in
    (fits_from left w (omega arith) one.0 two.0 three.0, cc)

-- a step that leads to one place
pub record Onward (q : ℕ → Part) (bytes : List ℕ) (room : ℕ) (P : ℕ → Type 0) : Type 0 where
  pub byte : ℕ
  pub rest : List ℕ
  pub is : bytes ≡ byte ∷ rest
  pub fits : byte < 256
  pub tail_are : AreBytes rest
  pub holds : P byte
  pub goes : Reaches (q byte) rest (part.Padding room)

onward : (p : Part) (q : ℕ → Part) (bytes : List ℕ) (room : ℕ) (P : ℕ → Type 0) → AreBytes bytes → is_padding p ≡ false → ((b : ℕ) (m : Part) → b < 256 → step p b ≡ Ok m → P b × (m ≡ q b)) → Reaches p bytes (part.Padding room) → Onward q bytes room P
onward p q bytes room P are inner only h =
    let f = first_of p bytes room inner h in
    let whole : AreBytes (f.byte ∷ f.rest) = subst AreBytes f.is are in
    let small : f.byte < 256 = All-head IsByte f.byte f.rest whole in
    let o = only f.byte f.to small f.stepped in
    record {
      byte = f.byte;
      rest = f.rest;
      is = f.is;
      fits = small;
      tail_are = All-tail IsByte f.byte f.rest whole;
      holds = o.0;
      goes = subst (λ x. Reaches x f.rest (part.Padding room)) o.1 f.goes;
    }

abbrev any : ℕ → Type 0
any b = Unit {0}

-- two bytes are the word that they make
pub word_of_bytes : (a b : ℕ) → a < 256 → b < 256 → word (a + 256 * b) ≡ a ∷ b ∷ []
word_of_bytes a b h k =
    let low : (a + 256 * b) % 256 ≡ a = omega arith in
    let high : (a + 256 * b) / 256 % 256 ≡ b = omega arith in
    ap (λ x. x ∷ (a + 256 * b) / 256 % 256 ∷ []) low ∙ ap (λ x. a ∷ x ∷ []) high

-- the word at the front
abbrev word_at : List ℕ → ℕ
word_at xs = get_or xs 0 0 + 256 * get_or xs 1 0

two_front : (xs : List ℕ) → AreBytes xs → 2 ≤ length xs → xs ≡ word (word_at xs) ++ drop 2 xs
two_front [] are h = absurd (omega arith)
two_front (a ∷ []) are h = absurd (omega arith)
two_front (a ∷ b ∷ ys) are h =
    let tail = All-tail IsByte a (b ∷ ys) are in
    ap (λ t. t ++ ys) (sym (word_of_bytes a b (All-head IsByte a (b ∷ ys) are) (All-head IsByte b ys tail)))

word_at-lt : (xs : List ℕ) → AreBytes xs → word_at xs < 65536
word_at-lt [] are = omega arith
word_at-lt (a ∷ []) are = let h : a < 256 = All-head IsByte a [] are in omega arith
word_at-lt (a ∷ b ∷ ys) are =
    let h : a < 256 = All-head IsByte a (b ∷ ys) are in
    let k : b < 256 = All-head IsByte b ys (All-tail IsByte a (b ∷ ys) are) in
    omega arith

-- irq, data, working counter and what lies behind them
body_split : (n : ℕ) (xs : List ℕ) → AreBytes xs → n + 4 ≤ length xs → xs ≡ word (word_at xs) ++ (take n (drop 2 xs) ++ (word (word_at (drop n (drop 2 xs))) ++ drop (n + 4) xs))
body_split n xs are long =
    let ys = drop 2 xs in
    let zs = drop n ys in
    let short : length ys ≡ length xs - 2 = length-drop 2 xs in
    let shorter : length zs ≡ length ys - n = length-drop n ys in
    let front = two_front xs are (omega arith) in
    let mid : ys ≡ take n ys ++ zs = sym (take-append-drop n ys) in
    let back = two_front zs (All-drop IsByte n ys (All-drop IsByte 2 xs are)) (omega (arith, short, shorter)) in
    let last : drop 2 zs ≡ drop (n + 4) xs = last_drop n xs in
    front ∙ ap (λ t. word (word_at xs) ++ t) (mid ∙ ap (λ t. take n ys ++ t) (back ∙ ap (λ t. word (word_at zs) ++ t) last))
  where
    last_drop : (k : ℕ) (l : List ℕ) → drop 2 (drop k (drop 2 l)) ≡ drop (k + 4) l
    last_drop k l = drop-drop 2 k (drop 2 l) ∙ drop-drop (k + 2) 2 l ∙ ap (λ m. drop m l) (let e : 2 + (k + 2) ≡ k + 4 = omega arith in e)

length_payload : (n : ℕ) (xs : List ℕ) → n + 4 ≤ length xs → length (take n (drop 2 xs)) ≡ n
length_payload n xs long = rw length-take (rw length-drop (omega arith))

-- the command of a number below 15
abbrev pub command_of : ℕ → Command
command_of b = slice_index_or commands b Nop

pub code_of-command : (b : ℕ) → b < 15 → code_of (command_of b) ≡ b
code_of-command zero h = refl
code_of-command (suc zero) h = refl
code_of-command (suc (suc zero)) h = refl
code_of-command (suc (suc (suc zero))) h = refl
code_of-command (suc (suc (suc (suc zero)))) h = refl
code_of-command (suc (suc (suc (suc (suc zero))))) h = refl
code_of-command (suc (suc (suc (suc (suc (suc zero)))))) h = refl
code_of-command (suc (suc (suc (suc (suc (suc (suc zero))))))) h = refl
code_of-command (suc (suc (suc (suc (suc (suc (suc (suc zero)))))))) h = refl
code_of-command (suc (suc (suc (suc (suc (suc (suc (suc (suc zero))))))))) h = refl
code_of-command (suc (suc (suc (suc (suc (suc (suc (suc (suc (suc zero)))))))))) h = refl
code_of-command (suc (suc (suc (suc (suc (suc (suc (suc (suc (suc (suc zero))))))))))) h = refl
code_of-command (suc (suc (suc (suc (suc (suc (suc (suc (suc (suc (suc (suc zero)))))))))))) h = refl
code_of-command (suc (suc (suc (suc (suc (suc (suc (suc (suc (suc (suc (suc (suc zero))))))))))))) h = refl
code_of-command (suc (suc (suc (suc (suc (suc (suc (suc (suc (suc (suc (suc (suc (suc zero)))))))))))))) h = refl
code_of-command (suc (suc (suc (suc (suc (suc (suc (suc (suc (suc (suc (suc (suc (suc (suc b))))))))))))))) h = absurd (omega arith)

-- a datagram by what its bytes say
abbrev datagram_of : (command index adp ado w irq : ℕ) (payload : List ℕ) (wkc : ℕ) → DatagramValue
datagram_of command index adp ado w irq payload wkc = record {
  head = record { command = command_of command; index = index; adp = adp; ado = ado };
  flags = w / 2048 % 16;
  irq = irq;
  payload = payload;
  wkc = wkc;
}

joined : (b0 b1 b2 b3 b4 b5 b6 b7 irq wkc : ℕ) (payload rest body : List ℕ) → b0 < 15 → b2 < 256 → b3 < 256 → b4 < 256 → b5 < 256 → b6 < 256 → b7 < 256 → length payload ≡ (b6 + 256 * b7) % 2048 → body ≡ word irq ++ (payload ++ (word wkc ++ rest))
    → b0 ∷ b1 ∷ b2 ∷ b3 ∷ b4 ∷ b5 ∷ b6 ∷ b7 ∷ body ≡ spelled ((b6 + 256 * b7) / 32768) (datagram_of b0 b1 (b2 + 256 * b3) (b4 + 256 * b5) (b6 + 256 * b7) irq payload wkc) ++ rest
joined b0 b1 b2 b3 b4 b5 b6 b7 irq wkc payload rest body f0 f2 f3 f4 f5 f6 f7 size e =
    let w = b6 + 256 * b7 in
    let m = w / 32768 in
    let d = datagram_of b0 b1 (b2 + 256 * b3) (b4 + 256 * b5) w irq payload wkc in
    let is_word : length_word_of m d ≡ w = omega (arith, size) in
    sym (spelled-append m d rest
    ∙ ap (λ c. c ∷ b1 ∷ (word (b2 + 256 * b3) ++ (word (b4 + 256 * b5) ++ (word (length_word_of m d) ++ (word irq ++ (payload ++ (word wkc ++ rest))))))) (code_of-command b0 f0)
    ∙ ap (λ t. b0 ∷ b1 ∷ (t ++ (word (b4 + 256 * b5) ++ (word (length_word_of m d) ++ (word irq ++ (payload ++ (word wkc ++ rest))))))) (word_of_bytes b2 b3 f2 f3)
    ∙ ap (λ t. b0 ∷ b1 ∷ b2 ∷ b3 ∷ (t ++ (word (length_word_of m d) ++ (word irq ++ (payload ++ (word wkc ++ rest)))))) (word_of_bytes b4 b5 f4 f5)
    ∙ ap (λ t. b0 ∷ b1 ∷ b2 ∷ b3 ∷ b4 ∷ b5 ∷ (t ++ (word irq ++ (payload ++ (word wkc ++ rest))))) (ap (λ n. word n) is_word ∙ word_of_bytes b6 b7 f6 f7)
    ∙ ap (λ t. b0 ∷ b1 ∷ b2 ∷ b3 ∷ b4 ∷ b5 ∷ b6 ∷ b7 ∷ t) (sym e))

-- a datagram with this more bit, and the bytes behind it
pub record Parsed (room left : ℕ) (bytes : List ℕ) (end : ℕ) : Type 0 where
  pub datagram : DatagramValue
  pub more_bit : ℕ
  pub rest : List ℕ
  pub is : bytes ≡ spelled more_bit datagram ++ rest
  pub tail_are : AreBytes rest
  pub valid : IsDatagram datagram
  pub within : 12 + length datagram.payload ≤ left
  pub follows : ((more_bit ≡ 0) × (left ≡ 12 + length datagram.payload)) ⊎ ((more_bit ≡ 1) × (24 + length datagram.payload ≤ left))
  pub goes : Reaches (behind room (left - (12 + length datagram.payload))) rest (part.Padding end)

abbrev command_fits : ℕ → Type 0
command_fits b = b < 15

command_only : (room left b : ℕ) (m : Part) → step (part.Head room left 0) b ≡ Ok m → command_fits b × (m ≡ part.Head room left 1)
command_only room left b m h =
    let g = guard (nat_lt 14 b) reason.Command (Ok (part.Head room left 1)) m h in
    (let e = g.0 in grind (arith, nat_tests), cc)

cells_of : (room left end : ℕ) (bytes : List ℕ) (f0 : Onward (λ _. part.Head room left 1) bytes end command_fits) (f1 : Onward (λ _. part.Head room left 2) f0.rest end any) (f2 : Onward (λ _. part.Head room left 3) f1.rest end any) (f3 : Onward (λ _. part.Head room left 4) f2.rest end any) (f4 : Onward (λ _. part.Head room left 5) f3.rest end any) (f5 : Onward (λ _. part.LengthLow room left) f4.rest end any) (f6 : Onward (λ b. part.LengthHigh room left b) f5.rest end any) (f7 : Onward (λ b. part.Body room (left - (12 + (f6.byte + 256 * b) % 2048)) ((f6.byte + 256 * b) % 2048 + 4)) f6.rest end (λ b. FitsLeft left (f6.byte + 256 * b)))
    → bytes ≡ f0.byte ∷ f1.byte ∷ f2.byte ∷ f3.byte ∷ f4.byte ∷ f5.byte ∷ f6.byte ∷ f7.byte ∷ f7.rest
cells_of room left end bytes f0 f1 f2 f3 f4 f5 f6 f7 =
    f0.is ∙ ap (λ t. f0.byte ∷ t) (f1.is ∙ ap (λ t. f1.byte ∷ t) (f2.is ∙ ap (λ t. f2.byte ∷ t) (f3.is ∙ ap (λ t. f3.byte ∷ t) (f4.is ∙ ap (λ t. f4.byte ∷ t) (f5.is ∙ ap (λ t. f5.byte ∷ t) (f6.is ∙ ap (λ t. f6.byte ∷ t) f7.is))))))

-- a datagram is parsed where its length word and the bytes behind it are
parsed_from : (room left end w : ℕ) (bytes body : List ℕ) (b0 b1 adp ado : ℕ) → w < 65536 → b1 < 256 → adp < 65536 → ado < 65536 → FitsLeft left w → AreBytes body
    → Reaches (part.Body room (left - (12 + w % 2048)) (w % 2048 + 4)) body (part.Padding end)
    → (w % 2048 + 4 ≤ length body → length (take (w % 2048) (drop 2 body)) ≡ w % 2048 → bytes ≡ spelled (w / 32768) (datagram_of b0 b1 adp ado w (word_at body) (take (w % 2048) (drop 2 body)) (word_at (drop (w % 2048) (drop 2 body)))) ++ drop (w % 2048 + 4) body)
    → Parsed room left bytes end
parsed_from room left end w bytes body b0 b1 adp ado small f1 fadp fado fits are goes is =
    let n = w % 2048 in
    let back = body_inverse room (left - (12 + n)) (n + 4) body end (omega arith) goes in
    let size = length_payload n body back.0 in
    let d = datagram_of b0 b1 adp ado w (word_at body) (take n (drop 2 body)) (word_at (drop n (drop 2 body))) in
    record {
      datagram = d;
      more_bit = w / 32768;
      rest = drop (n + 4) body;
      is = is back.0 size;
      tail_are = All-drop IsByte (n + 4) body are;
      valid = record {
        index = f1;
        adp = fadp;
        ado = fado;
        flags = omega arith;
        size = omega (arith, size);
        irq = word_at-lt body are;
        payload = All-take IsByte n (drop 2 body) (All-drop IsByte 2 body are);
        wkc = word_at-lt (drop n (drop 2 body)) (All-drop IsByte n (drop 2 body) (All-drop IsByte 2 body are));
      };
      within = rw size fits.within;
      follows = rw size fits.follows;
      goes = rw size back.1;
    }

parsed_8 : (room left end : ℕ) (bytes : List ℕ) (f0 : Onward (λ _. part.Head room left 1) bytes end command_fits) (f1 : Onward (λ _. part.Head room left 2) f0.rest end any) (f2 : Onward (λ _. part.Head room left 3) f1.rest end any) (f3 : Onward (λ _. part.Head room left 4) f2.rest end any) (f4 : Onward (λ _. part.Head room left 5) f3.rest end any) (f5 : Onward (λ _. part.LengthLow room left) f4.rest end any) (f6 : Onward (λ b. part.LengthHigh room left b) f5.rest end any) (f7 : Onward (λ b. part.Body room (left - (12 + (f6.byte + 256 * b) % 2048)) ((f6.byte + 256 * b) % 2048 + 4)) f6.rest end (λ b. FitsLeft left (f6.byte + 256 * b)))
    → Parsed room left bytes end
parsed_8 room left end bytes f0 f1 f2 f3 f4 f5 f6 f7 =
    parsed_from room left end (f6.byte + 256 * f7.byte) bytes f7.rest f0.byte f1.byte (f2.byte + 256 * f3.byte) (f4.byte + 256 * f5.byte)
    (pair_lt f6.byte f7.byte f6.fits f7.fits) f1.fits (pair_lt f2.byte f3.byte f2.fits f3.fits) (pair_lt f4.byte f5.byte f4.fits f5.fits) f7.holds f7.tail_are f7.goes
    (λ long size. cells_of room left end bytes f0 f1 f2 f3 f4 f5 f6 f7 ∙ joined f0.byte f1.byte f2.byte f3.byte f4.byte f5.byte f6.byte f7.byte _ _ _ _ f7.rest f0.holds f2.fits f3.fits f4.fits f5.fits f6.fits f7.fits size (body_split ((f6.byte + 256 * f7.byte) % 2048) f7.rest f7.tail_are long))
  where
    pair_lt : (a b : ℕ) → a < 256 → b < 256 → a + 256 * b < 65536
    pair_lt a b h k = omega arith

parsed_7 : (room left end : ℕ) (bytes : List ℕ) (f0 : Onward (λ _. part.Head room left 1) bytes end command_fits) (f1 : Onward (λ _. part.Head room left 2) f0.rest end any) (f2 : Onward (λ _. part.Head room left 3) f1.rest end any) (f3 : Onward (λ _. part.Head room left 4) f2.rest end any) (f4 : Onward (λ _. part.Head room left 5) f3.rest end any) (f5 : Onward (λ _. part.LengthLow room left) f4.rest end any) (f6 : Onward (λ b. part.LengthHigh room left b) f5.rest end any)
    → Parsed room left bytes end
parsed_7 room left end bytes f0 f1 f2 f3 f4 f5 f6 =
    parsed_8 room left end bytes f0 f1 f2 f3 f4 f5 f6 (onward (part.LengthHigh room left f6.byte) (λ b. part.Body room (left - (12 + (f6.byte + 256 * b) % 2048)) ((f6.byte + 256 * b) % 2048 + 4)) f6.rest end (λ b. FitsLeft left (f6.byte + 256 * b)) f6.tail_are refl (λ b m small s. high_inverse room left f6.byte b m f6.fits small s) f6.goes)

parsed_6 : (room left end : ℕ) (bytes : List ℕ) (f0 : Onward (λ _. part.Head room left 1) bytes end command_fits) (f1 : Onward (λ _. part.Head room left 2) f0.rest end any) (f2 : Onward (λ _. part.Head room left 3) f1.rest end any) (f3 : Onward (λ _. part.Head room left 4) f2.rest end any) (f4 : Onward (λ _. part.Head room left 5) f3.rest end any) (f5 : Onward (λ _. part.LengthLow room left) f4.rest end any)
    → Parsed room left bytes end
parsed_6 room left end bytes f0 f1 f2 f3 f4 f5 =
    parsed_7 room left end bytes f0 f1 f2 f3 f4 f5 (onward (part.LengthLow room left) (λ b. part.LengthHigh room left b) f5.rest end any f5.tail_are refl (λ b m _ s. (tt, low_inverse room left b m s)) f5.goes)

parsed_5 : (room left end : ℕ) (bytes : List ℕ) (f0 : Onward (λ _. part.Head room left 1) bytes end command_fits) (f1 : Onward (λ _. part.Head room left 2) f0.rest end any) (f2 : Onward (λ _. part.Head room left 3) f1.rest end any) (f3 : Onward (λ _. part.Head room left 4) f2.rest end any) (f4 : Onward (λ _. part.Head room left 5) f3.rest end any)
    → Parsed room left bytes end
parsed_5 room left end bytes f0 f1 f2 f3 f4 =
    parsed_6 room left end bytes f0 f1 f2 f3 f4 (onward (part.Head room left 5) (λ _. part.LengthLow room left) f4.rest end any f4.tail_are refl (λ b m _ s. (tt, (cc))) f4.goes)

parsed_4 : (room left end : ℕ) (bytes : List ℕ) (f0 : Onward (λ _. part.Head room left 1) bytes end command_fits) (f1 : Onward (λ _. part.Head room left 2) f0.rest end any) (f2 : Onward (λ _. part.Head room left 3) f1.rest end any) (f3 : Onward (λ _. part.Head room left 4) f2.rest end any)
    → Parsed room left bytes end
parsed_4 room left end bytes f0 f1 f2 f3 =
    parsed_5 room left end bytes f0 f1 f2 f3 (onward (part.Head room left 4) (λ _. part.Head room left 5) f3.rest end any f3.tail_are refl (λ b m _ s. (tt, (cc))) f3.goes)

parsed_3 : (room left end : ℕ) (bytes : List ℕ) (f0 : Onward (λ _. part.Head room left 1) bytes end command_fits) (f1 : Onward (λ _. part.Head room left 2) f0.rest end any) (f2 : Onward (λ _. part.Head room left 3) f1.rest end any)
    → Parsed room left bytes end
parsed_3 room left end bytes f0 f1 f2 =
    parsed_4 room left end bytes f0 f1 f2 (onward (part.Head room left 3) (λ _. part.Head room left 4) f2.rest end any f2.tail_are refl (λ b m _ s. (tt, (cc))) f2.goes)

parsed_2 : (room left end : ℕ) (bytes : List ℕ) (f0 : Onward (λ _. part.Head room left 1) bytes end command_fits) (f1 : Onward (λ _. part.Head room left 2) f0.rest end any)
    → Parsed room left bytes end
parsed_2 room left end bytes f0 f1 =
    parsed_3 room left end bytes f0 f1 (onward (part.Head room left 2) (λ _. part.Head room left 3) f1.rest end any f1.tail_are refl (λ b m _ s. (tt, (cc))) f1.goes)

parsed_1 : (room left end : ℕ) (bytes : List ℕ) (f0 : Onward (λ _. part.Head room left 1) bytes end command_fits)
    → Parsed room left bytes end
parsed_1 room left end bytes f0 =
    parsed_2 room left end bytes f0 (onward (part.Head room left 1) (λ _. part.Head room left 2) f0.rest end any f0.tail_are refl (λ b m _ s. (tt, (cc))) f0.goes)

pub head_inverse : (room left : ℕ) (bytes : List ℕ) (end : ℕ) → AreBytes bytes → Reaches (part.Head room left 0) bytes (part.Padding end) → Parsed room left bytes end
head_inverse room left bytes end are h =
    parsed_1 room left end bytes (onward (part.Head room left 0) (λ _. part.Head room left 1) bytes end command_fits are refl (λ b m _ s. command_only room left b m s) h)

-- the datagrams of a frame, and the padding behind them
pub record Listed (room left : ℕ) (bytes : List ℕ) (end : ℕ) : Type 0 where
  pub datagrams : List DatagramValue
  pub rest : List ℕ
  pub is : bytes ≡ all_spelled datagrams ++ rest
  pub valid : All IsDatagram datagrams
  pub some : more datagrams ≡ 1
  pub counted : length (all_spelled datagrams) ≡ left
  pub tail_are : AreBytes rest
  pub goes : Reaches (part.Padding room) rest (part.Padding end)

listed_last : (room left : ℕ) (bytes : List ℕ) (end : ℕ) (p : Parsed room left bytes end) → p.more_bit ≡ 0 → left ≡ 12 + length p.datagram.payload → Listed room left bytes end
unfolding all_spelled
listed_last room left bytes end p last counted = record {
  datagrams = p.datagram ∷ [];
  rest = p.rest;
  is = p.is ∙ ap (λ m. spelled m p.datagram ++ p.rest) last ∙ ap (λ t. t ++ p.rest) (sym (append-nil (spelled 0 p.datagram)));
  valid = All-cons IsDatagram p.datagram [] p.valid (All-nil IsDatagram);
  some = refl;
  counted = ap length (append-nil (spelled 0 p.datagram)) ∙ length-spelled 0 p.datagram ∙ sym counted;
  tail_are = p.tail_are;
  goes = subst (λ q. Reaches q p.rest (part.Padding end)) (behind_last room (left - (12 + length p.datagram.payload)) (omega arith)) p.goes;
}

listed_more : (room left : ℕ) (bytes : List ℕ) (end : ℕ) (p : Parsed room left bytes end) → p.more_bit ≡ 1 → 24 + length p.datagram.payload ≤ left
    → (l : Listed room (left - (12 + length p.datagram.payload)) p.rest end) → Listed room left bytes end
unfolding all_spelled
listed_more room left bytes end p one long l = record {
  datagrams = p.datagram ∷ l.datagrams;
  rest = l.rest;
  is =
      p.is
      ∙ ap (λ m. spelled m p.datagram ++ p.rest) (one ∙ sym l.some)
      ∙ ap (λ t. spelled (more l.datagrams) p.datagram ++ t) l.is
      ∙ sym (append_assoc (spelled (more l.datagrams) p.datagram) (all_spelled l.datagrams) l.rest);
  valid = All-cons IsDatagram p.datagram l.datagrams p.valid l.valid;
  some = refl;
  counted =
      length-append (spelled (more l.datagrams) p.datagram) (all_spelled l.datagrams)
      ∙ (let a = length-spelled (more l.datagrams) p.datagram in let b = l.counted in omega arith);
  tail_are = l.tail_are;
  goes = l.goes;
}

pub datagrams_inverse : (fuel room left : ℕ) (bytes : List ℕ) (end : ℕ) → left ≤ fuel → AreBytes bytes → Reaches (part.Head room left 0) bytes (part.Padding end) → Listed room left bytes end
datagrams_inverse zero room left bytes end low are h =
    let p = head_inverse room left bytes end are h in
    absurd (let a = p.within in omega (arith, a))
datagrams_inverse (suc fuel) room left bytes end low are h =
    go (head_inverse room left bytes end are h)
    (λ p long some. datagrams_inverse fuel room (left - (12 + length p.datagram.payload)) p.rest end (omega arith) p.tail_are
    (subst (λ q. Reaches q p.rest (part.Padding end)) (behind_more room (left - (12 + length p.datagram.payload)) (omega arith)) p.goes))
  where
    go : (p : Parsed room left bytes end) → ((p : Parsed room left bytes end) → 24 + length p.datagram.payload ≤ left → 0 < left → Listed room (left - (12 + length p.datagram.payload)) p.rest end) → Listed room left bytes end
    go p on =
        elim p.follows [
          | inl f ↦ listed_last room left bytes end p f.0 f.1
          | inr f ↦ listed_more room left bytes end p f.0 f.1 (on p f.1 (omega (arith, f.1)))
        ]

-- the twelve bytes of the addresses
pub record Fronted (n : ℕ) (bytes : List ℕ) (end : ℕ) : Type 0 where
  pub front : List ℕ
  pub rest : List ℕ
  pub is : bytes ≡ front ++ rest
  pub counted : n + length front ≡ 12
  pub front_are : AreBytes front
  pub tail_are : AreBytes rest
  pub goes : Reaches (part.Front 12) rest (part.Padding end)

front_on : (n : ℕ) (bytes : List ℕ) (end : ℕ) (f : First (part.Front n) bytes end) → f.byte < 256 → (l : Fronted (n + 1) f.rest end) → Fronted n bytes end
front_on n bytes end f small l = record {
  front = f.byte ∷ l.front;
  rest = l.rest;
  is = f.is ∙ ap (λ t. f.byte ∷ t) l.is;
  counted = let a = l.counted in omega arith;
  front_are = All-cons IsByte f.byte l.front small l.front_are;
  tail_are = l.tail_are;
  goes = l.goes;
}

front_step : (n b : ℕ) (m : Part) → n < 12 → step (part.Front n) b ≡ Ok m → m ≡ part.Front (n + 1)
front_step n b m h s =
    let e : nat_lt n 12 ≡ true = search (rules, nat_tests) in
    let t : step (part.Front n) b ≡ Ok (part.Front (n + 1)) = rw e refl in
    cc

front_inverse : (j n : ℕ) (bytes : List ℕ) (end : ℕ) → n + j ≡ 12 → AreBytes bytes → Reaches (part.Front n) bytes (part.Padding end) → Fronted n bytes end
front_inverse zero n bytes end e are h = record {
  front = [];
  rest = bytes;
  is = refl;
  counted = e;
  front_are = All-nil IsByte;
  tail_are = are;
  goes = let f : n ≡ 12 = omega arith in subst (λ m. Reaches (part.Front m) bytes (part.Padding end)) f h;
}
front_inverse (suc j) n bytes end e are h =
    let f = first_of (part.Front n) bytes end refl h in
    let whole : AreBytes (f.byte ∷ f.rest) = subst AreBytes f.is are in
    front_on n bytes end f (All-head IsByte f.byte f.rest whole)
    (front_inverse j (n + 1) f.rest end (omega arith) (All-tail IsByte f.byte f.rest whole)
    (subst (λ q. Reaches q f.rest (part.Padding end)) (front_step n f.byte f.to (omega arith) f.stepped) f.goes))

type_first : (b : ℕ) (m : Part) → step (part.Front 12) b ≡ Ok m → (b ≡ 0x88) × (m ≡ part.Front 13)
type_first b m h =
    let g = guard_yes (eqb b 0x88) reason.EtherType (Ok (part.Front 13)) m h in
    (let e = g.0 in grind (arith, nat_tests), cc)

type_second : (b : ℕ) (m : Part) → step (part.Front 13) b ≡ Ok m → (b ≡ 0xA4) × (m ≡ part.HeaderLow)
type_second b m h =
    let g = guard_yes (eqb b 0xA4) reason.EtherType (Ok part.HeaderLow) m h in
    (let e = g.0 in grind (arith, nat_tests), cc)

-- a header word that a frame may have
pub record IsHeader (w : ℕ) : Type 0 where
  pub type_one : w / 4096 ≡ 1
  pub least : 12 ≤ w % 2048
  pub most : w % 2048 ≤ 1498

is_header : (w : ℕ) → not (eqb (w / 4096) 1) ≡ false → (nat_lt (w % 2048) 12 || nat_lt 1498 (w % 2048)) ≡ false → IsHeader w
is_header w a c = record { type_one = grind (arith, nat_tests); least = grind (arith, nat_tests); most = grind (arith, nat_tests) }

header_inverse : (w : ℕ) (m : Part) → after_header w ≡ Ok m → IsHeader w × (m ≡ part.Head (room_for (w % 2048)) (w % 2048) 0)
header_inverse w m h =
    let one = guard (not (eqb (w / 4096) 1)) reason.FrameType _ m h in
    let two = guard (nat_lt (w % 2048) 12 || nat_lt 1498 (w % 2048)) reason.Length (Ok (part.Head (room_for (w % 2048)) (w % 2048) 0)) m one.1 in
    (is_header w one.0 two.0, cc)

-- the parts make a frame
in_grammar : (bytes front rest : List ℕ) (p q lo hi : ℕ) (ds : List DatagramValue) → bytes ≡ front ++ (p ∷ q ∷ lo ∷ hi ∷ (all_spelled ds ++ rest)) → length front ≡ 12 → AreBytes front → p ≡ 0x88 → q ≡ 0xA4 → lo < 256 → hi < 256 → IsHeader (lo + 256 * hi) → All IsDatagram ds → length (all_spelled ds) ≡ (lo + 256 * hi) % 2048 → AreBytes rest → length rest ≤ room_for ((lo + 256 * hi) % 2048)
    → InGrammar bytes
unfolding spelling
in_grammar bytes front rest p q lo hi ds e twelve are e1 e2 small small' is valid counted tail padded =
    let w = lo + 256 * hi in
    let f : FrameValue = record { destination = take 6 front; source = drop 6 front; reserved = w / 2048 % 2; datagrams = ds; padding = rest } in
    let header : header_word f ≡ w = omega (arith, counted, is.type_one) in (
      f,
      (
        record {
          destination = (length-take 6 front ∙ omega (arith, twelve), All-take IsByte 6 front are);
          source = (length-drop 6 front ∙ omega (arith, twelve), All-drop IsByte 6 front are);
          reserved = omega arith;
          datagrams = valid;
          least = rw counted is.least;
          most = rw counted is.most;
          padding = tail;
          padded = rw counted padded;
        },
        e ∙ together (take 6 front) (drop 6 front) front p q lo hi (header_word f) (all_spelled ds) rest (sym (take-append-drop 6 front)) e1 e2 small small' header,
      ),
    )
  where
    together : (to from front' : List ℕ) (p' q' low high v : ℕ) (all behind_all : List ℕ) → front' ≡ to ++ from → p' ≡ 0x88 → q' ≡ 0xA4 → low < 256 → high < 256 → v ≡ low + 256 * high
        → front' ++ (p' ∷ q' ∷ low ∷ high ∷ (all ++ behind_all)) ≡ to ++ from ++ (0x88 ∷ 0xA4 ∷ []) ++ word v ++ all ++ behind_all
    together to from front' p' q' low high v all behind_all a b c h k g =
        rw (a, b, c, g, word_of_bytes low high h k) (sym (simp append_assoc))

framed : (bytes : List ℕ) (end : ℕ) (f : Fronted 0 bytes end) (a : Onward (λ _. part.Front 13) f.rest end (λ b. b ≡ 0x88)) (b : Onward (λ _. part.HeaderLow) a.rest end (λ b. b ≡ 0xA4)) (c : Onward (λ b. part.HeaderHigh b) b.rest end any) (d : Onward (λ b. part.Head (room_for ((c.byte + 256 * b) % 2048)) ((c.byte + 256 * b) % 2048) 0) c.rest end (λ b. IsHeader (c.byte + 256 * b)))
    (l : Listed (room_for ((c.byte + 256 * d.byte) % 2048)) ((c.byte + 256 * d.byte) % 2048) d.rest end) → InGrammar bytes
framed bytes end f a b c d l =
    in_grammar bytes f.front l.rest a.byte b.byte c.byte d.byte l.datagrams
    (f.is ∙ ap (λ t. f.front ++ t) (a.is ∙ ap (λ t. a.byte ∷ t) (b.is ∙ ap (λ t. b.byte ∷ t) (c.is ∙ ap (λ t. c.byte ∷ t) (d.is ∙ ap (λ t. d.byte ∷ t) l.is)))))
    (omega (arith, f.counted)) f.front_are a.holds b.holds c.fits d.fits d.holds l.valid l.counted l.tail_are (padding_inverse (room_for ((c.byte + 256 * d.byte) % 2048)) l.rest end l.goes)

frame_5 : (bytes : List ℕ) (end : ℕ) (f : Fronted 0 bytes end) (a : Onward (λ _. part.Front 13) f.rest end (λ b. b ≡ 0x88)) (b : Onward (λ _. part.HeaderLow) a.rest end (λ b. b ≡ 0xA4)) (c : Onward (λ b. part.HeaderHigh b) b.rest end any) (d : Onward (λ b. part.Head (room_for ((c.byte + 256 * b) % 2048)) ((c.byte + 256 * b) % 2048) 0) c.rest end (λ b. IsHeader (c.byte + 256 * b))) → InGrammar bytes
frame_5 bytes end f a b c d =
    framed bytes end f a b c d (datagrams_inverse ((c.byte + 256 * d.byte) % 2048) (room_for ((c.byte + 256 * d.byte) % 2048)) ((c.byte + 256 * d.byte) % 2048) d.rest end (omega arith) d.tail_are d.goes)

frame_4 : (bytes : List ℕ) (end : ℕ) (f : Fronted 0 bytes end) (a : Onward (λ _. part.Front 13) f.rest end (λ b. b ≡ 0x88)) (b : Onward (λ _. part.HeaderLow) a.rest end (λ b. b ≡ 0xA4)) (c : Onward (λ b. part.HeaderHigh b) b.rest end any) → InGrammar bytes
frame_4 bytes end f a b c =
    frame_5 bytes end f a b c (onward (part.HeaderHigh c.byte) (λ b. part.Head (room_for ((c.byte + 256 * b) % 2048)) ((c.byte + 256 * b) % 2048) 0) c.rest end (λ b. IsHeader (c.byte + 256 * b)) c.tail_are refl (λ n m _ s. header_inverse (c.byte + 256 * n) m s) c.goes)

frame_3 : (bytes : List ℕ) (end : ℕ) (f : Fronted 0 bytes end) (a : Onward (λ _. part.Front 13) f.rest end (λ b. b ≡ 0x88)) (b : Onward (λ _. part.HeaderLow) a.rest end (λ b. b ≡ 0xA4)) → InGrammar bytes
frame_3 bytes end f a b =
    frame_4 bytes end f a b (onward (part.HeaderLow) (λ b. part.HeaderHigh b) b.rest end any b.tail_are refl (λ n m _ s. (tt, (cc))) b.goes)

frame_2 : (bytes : List ℕ) (end : ℕ) (f : Fronted 0 bytes end) (a : Onward (λ _. part.Front 13) f.rest end (λ b. b ≡ 0x88)) → InGrammar bytes
frame_2 bytes end f a =
    frame_3 bytes end f a (onward (part.Front 13) (λ _. part.HeaderLow) a.rest end (λ b. b ≡ 0xA4) a.tail_are refl (λ n m _ s. type_second n m s) a.goes)

frame_1 : (bytes : List ℕ) (end : ℕ) (f : Fronted 0 bytes end) → InGrammar bytes
frame_1 bytes end f =
    frame_2 bytes end f (onward (part.Front 12) (λ _. part.Front 13) f.rest end (λ b. b ≡ 0x88) f.tail_are refl (λ n m _ s. type_first n m s) f.goes)

pub frame_inverse : (bytes : List ℕ) (end : ℕ) → AreBytes bytes → Reaches (part.Front 0) bytes (part.Padding end) → InGrammar bytes
frame_inverse bytes end are h = frame_1 bytes end (front_inverse 12 0 bytes end (omega arith) are h)
