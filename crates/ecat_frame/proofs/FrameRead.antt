-- A frame is read to its end.
use Rattle.std.proofs.Common.{◌≡◌, ℕ, suc, ◌+◌, ◌-◌, ◌*◌, ◌/◌, ◌%◌, ◌<◌, ◌≤◌, ◌⊎◌, true, false, eqb, nat_lt, List, [], ◌∷◌, ◌++◌, length, Ok, refl, arith, rules, sym, ap, ◌∙◌, inl, inr, subst, zero-add}
use Rattle.std.specs.List.{All}
use Rattle.std.proofs.lemmas.List.{length-append}
use Rattle.std.proofs.lemmas.List.Elements.{All-head, All-tail}
use Rattle.std.proofs.lemmas.Bool.Decides.{nat_tests}
use Rattle.ecat_frame.specs.Commands.{code_of}
use Rattle.ecat_frame.specs.FrameGrammar.{DatagramValue, FrameValue, IsDatagram, IsFrame, all_spelled, header_word, length_word_of, more, spelled, spelling, word}
use Rattle.ecat_frame.specs.Refusals.{step, behind, room_for, Reaches}
use Rattle.ecat_frame.specs.FramePart as part
use Rattle.ecat_frame.proofs.Datagrams.{some_datagram}
use Rattle.ecat_frame.proofs.Spelled.{code_of-lt, length-spelled, length_word-lt}
use Rattle.ecat_frame.proofs.Spelling.{header_word-lt, header_word-mod}
use Rattle.ecat_frame.proofs.Steps.{reaches_append}

body_step : (room left body b : ℕ) → 1 < body → step (part.Body room left body) b ≡ Ok (part.Body room left (body - 1))
body_step room left body b h = let e : nat_lt 1 body ≡ true = search (rules, nat_tests) in rw e refl

pub body_takes : (room left body : ℕ) (xs : List ℕ) → body ≡ length xs → 0 < body → Reaches (part.Body room left body) xs (behind room left)
body_takes room left body [] e some = absurd (omega arith)
body_takes room left body (x ∷ []) e some = (behind room left, (rw e refl, refl))
body_takes room left body (x ∷ y ∷ ys) e some =
    let more_than_one : 1 < body = omega arith in
    (part.Body room left (body - 1), (body_step room left body x more_than_one, body_takes room left (body - 1) (y ∷ ys) (omega arith) (omega arith)))

-- a length word that fits what is left, and says rightly whether another datagram follows
pub record FitsLeft (left w : ℕ) : Type 0 where
  pub within : 12 + w % 2048 ≤ left
  pub follows : ((w / 32768 ≡ 0) × (left ≡ 12 + w % 2048)) ⊎ ((w / 32768 ≡ 1) × (24 + w % 2048 ≤ left))

pub low_step : (room left w : ℕ) → w < 65536 → FitsLeft left w → step (part.LengthLow room left) (w % 256) ≡ Ok (part.LengthHigh room left (w % 256))
low_step room left w small fits =
    let h = fits.within in
    elim fits.follows [ inl f ↦ grind (arith, nat_tests) | inr f ↦ grind (arith, nat_tests) ]

pub high_step : (room left w : ℕ) → w < 65536 → FitsLeft left w → step (part.LengthHigh room left (w % 256)) (w / 256 % 256) ≡ Ok (part.Body room (left - (12 + w % 2048)) (w % 2048 + 4))
high_step room left w small fits =
    let e : w % 256 + 256 * (w / 256 % 256) ≡ w = omega arith in
    rw e (let h = fits.within in elim fits.follows [ inl f ↦ grind (arith, nat_tests) | inr f ↦ grind (arith, nat_tests) ])

command_step : (room left command : ℕ) → command < 15 → step (part.Head room left 0) command ≡ Ok (part.Head room left 1)
command_step room left command h = let e : nat_lt 14 command ≡ false = search (rules, nat_tests) in rw e refl

body_length : (d : DatagramValue) → length d.payload + 4 ≡ length (word d.irq ++ d.payload ++ word d.wkc)
body_length d = omega (arith, length-append (word d.irq ++ d.payload) (word d.wkc), length-append (word d.irq) d.payload)

-- the head of a datagram with these numbers, and its bytes behind the length word
head_takes : (room left command index adp ado w : ℕ) (body : List ℕ) → command < 15 → w < 65536 → FitsLeft left w → w % 2048 + 4 ≡ length body
    → Reaches (part.Head room left 0) (command ∷ index ∷ (word adp ++ (word ado ++ (word w ++ body)))) (behind room (left - (12 + w % 2048)))
head_takes room left command index adp ado w body small fits_word fits e = (
  part.Head room left 1,
  (
    command_step room left command small,
    (
      part.Head room left 2,
      (
        refl,
        (
          part.Head room left 3,
          (
            refl,
            (
              part.Head room left 4,
              (
                refl,
                (
                  part.Head room left 5,
                  (
                    refl,
                    (
                      part.LengthLow room left,
                      (
                        refl,
                        (
                          part.LengthHigh room left (w % 256),
                          (
                            low_step room left w fits_word fits,
                            (
                              part.Body room (left - (12 + w % 2048)) (w % 2048 + 4),
                              (
                                high_step room left w fits_word fits,
                                body_takes room (left - (12 + w % 2048)) (w % 2048 + 4) body e (omega arith),
                              ),
                            ),
                          ),
                        ),
                      ),
                    ),
                  ),
                ),
              ),
            ),
          ),
        ),
      ),
    ),
  ),
)

pub length_word-mod : (m : ℕ) (d : DatagramValue) → m < 2 → IsDatagram d → length_word_of m d % 2048 ≡ length d.payload
length_word-mod m d h w = omega (arith, w.flags, w.size)

pub length_word-div : (m : ℕ) (d : DatagramValue) → m < 2 → IsDatagram d → length_word_of m d / 32768 ≡ m
length_word-div m d h w = omega (arith, w.flags, w.size)

datagram_read : (room left m : ℕ) (d : DatagramValue) → m < 2 → IsDatagram d → FitsLeft left (length_word_of m d) → Reaches (part.Head room left 0) (spelled m d) (behind room (left - (12 + length d.payload)))
unfolding spelled
datagram_read room left m d h w fits =
    let size = length_word-mod m d h w in
    subst (λ n. Reaches (part.Head room left 0) (spelled m d) (behind room (left - (12 + n)))) size
    (head_takes room left (code_of d.head.command) d.head.index d.head.adp d.head.ado (length_word_of m d) (word d.irq ++ d.payload ++ word d.wkc) (code_of-lt d.head.command) (length_word-lt m d h w) fits (ap (λ n. n + 4) size ∙ body_length d))

pub behind_last : (room left : ℕ) → left ≡ 0 → behind room left ≡ part.Padding room
behind_last room left h = rw h refl

pub behind_more : (room left : ℕ) → 0 < left → behind room left ≡ part.Head room left 0
behind_more room left h = let e : eqb left 0 ≡ false = search (rules, nat_tests) in rw e refl

fits_spelled : (left m : ℕ) (d : DatagramValue) → m < 2 → IsDatagram d → 12 + length d.payload ≤ left → ((m ≡ 0) × (left ≡ 12 + length d.payload)) ⊎ ((m ≡ 1) × (24 + length d.payload ≤ left)) → FitsLeft left (length_word_of m d)
fits_spelled left m d h w long follows =
    let size = length_word-mod m d h w in
    let one = length_word-div m d h w in
    record {
      within = rw size long;
      follows = elim follows [ inl f ↦ inl (one ∙ f.0, f.1 ∙ ap (λ n. 12 + n) (sym size)) | inr f ↦ inr (one ∙ f.0, rw size f.1) ];
    }

-- all the datagrams of a frame
pub datagrams_read : (room : ℕ) (ds : List DatagramValue) → All IsDatagram ds → 0 < length ds → Reaches (part.Head room (length (all_spelled ds)) 0) (all_spelled ds) (part.Padding room)
unfolding all_spelled
datagrams_read room [] w some = absurd (omega arith)
datagrams_read room (d ∷ []) w some =
    let valid = All-head IsDatagram d [] w in
    let n : length (spelled 0 d ++ []) ≡ 12 + length d.payload = omega (arith, length-append (spelled 0 d) [], length-spelled 0 d) in
    reaches_append (spelled 0 d) [] (part.Head room (length (spelled 0 d ++ [])) 0) (behind room (length (spelled 0 d ++ []) - (12 + length d.payload))) (part.Padding room)
    (datagram_read room (length (spelled 0 d ++ [])) 0 d (omega arith) valid (fits_spelled (length (spelled 0 d ++ [])) 0 d (omega arith) valid (omega (arith, n)) (inl (refl, n))))
    (behind_last room (length (spelled 0 d ++ []) - (12 + length d.payload)) (omega (arith, n)))
datagrams_read room (d ∷ e ∷ ds) w some =
    let valid = All-head IsDatagram d (e ∷ ds) w in
    let rest = all_spelled (e ∷ ds) in
    let all = spelled 1 d ++ rest in
    let n : length all ≡ 12 + length d.payload + length rest = omega (arith, length-append (spelled 1 d) rest, length-spelled 1 d) in
    let least : 12 ≤ length rest = omega (arith, length-append (spelled (more ds) e) (all_spelled ds), length-spelled (more ds) e) in
    let left : length all - (12 + length d.payload) ≡ length rest = omega (arith, n) in
    reaches_append (spelled 1 d) rest (part.Head room (length all) 0) (behind room (length all - (12 + length d.payload))) (part.Padding room)
    (datagram_read room (length all) 1 d (omega arith) valid (fits_spelled (length all) 1 d (omega arith) valid (omega (arith, n)) (inr (refl, omega (arith, n, least)))))
    (subst (λ x. Reaches x rest (part.Padding room)) (sym (ap (behind room) left ∙ behind_more room (length rest) (omega (arith, least)))) (datagrams_read room (e ∷ ds) (All-tail IsDatagram d (e ∷ ds) w) (omega arith)))

pub front_takes : (n : ℕ) (xs : List ℕ) → n + length xs ≤ 12 → Reaches (part.Front n) xs (part.Front (n + length xs))
front_takes n [] h = ap part.Front (omega arith)
front_takes n (x ∷ xs) h =
    let e : nat_lt n 12 ≡ true = search (rules, nat_tests) in
    let f : n + 1 + length xs ≡ n + suc (length xs) = omega arith in
    (part.Front (n + 1), (rw e refl, rw f at (front_takes (n + 1) xs (omega arith))))

padding_takes : (room : ℕ) (xs : List ℕ) → length xs ≤ room → Reaches (part.Padding room) xs (part.Padding (room - length xs))
padding_takes room [] h = ap part.Padding (omega arith)
padding_takes room (x ∷ xs) h =
    let e : eqb room 0 ≡ false = search (rules, nat_tests) in
    let f : room - 1 - length xs ≡ room - suc (length xs) = omega arith in
    (part.Padding (room - 1), (rw e refl, rw f at (padding_takes (room - 1) xs (omega arith))))

-- a header word of type 1 and a length that a frame may have
header_step : (w size : ℕ) → w < 65536 → w / 4096 ≡ 1 → w % 2048 ≡ size → 12 ≤ size → size ≤ 1498 → step (part.HeaderHigh (w % 256)) (w / 256 % 256) ≡ Ok (part.Head (room_for size) size 0)
header_step w size small one is least most =
    let e : w % 256 + 256 * (w / 256 % 256) ≡ w = omega arith in
    rw (e, one, is) (grind (arith, nat_tests))

header_word-one : (f : FrameValue) → IsFrame f → header_word f / 4096 ≡ 1
header_word-one f w = omega (arith, w.reserved, w.most)

addresses_take : (to from : List ℕ) → length to ≡ 6 → length from ≡ 6 → Reaches (part.Front 0) (to ++ from) (part.Front 12)
addresses_take to from six six' =
    let twelve : length (to ++ from) ≡ 12 = omega (arith, length-append to from) in
    subst (λ n. Reaches (part.Front 0) (to ++ from) (part.Front n)) (zero-add (length (to ++ from)) ∙ twelve) (front_takes 0 (to ++ from) (omega (arith, twelve)))

pub frame_read : (f : FrameValue) → IsFrame f → (room : ℕ) × Reaches (part.Front 0) (spelling f) (part.Padding room)
unfolding spelling
frame_read f w =
    let all = all_spelled f.datagrams in
    let room = room_for (length all) in
    let end = room - length f.padding in
    let head : Reaches (part.Front 0) (f.destination ++ f.source) (part.Front 12) = addresses_take f.destination f.source w.destination.0 w.source.0 in
    let type : Reaches (part.Front 12) (0x88 ∷ 0xA4 ∷ []) part.HeaderLow = (part.Front 13, (refl, (part.HeaderLow, (refl, refl)))) in
    let step_on = header_step (header_word f) (length all) (header_word-lt f w) (header_word-one f w) (header_word-mod f w) w.least w.most in
    let header : Reaches part.HeaderLow (word (header_word f)) (part.Head room (length all) 0) = (part.HeaderHigh (header_word f % 256), (refl, (part.Head room (length all) 0, (step_on, refl)))) in
    let body : Reaches (part.Head room (length all) 0) all (part.Padding room) = datagrams_read room f.datagrams w.datagrams (some f w) in (
      end,
      reaches_append _ f.padding (part.Front 0) (part.Padding room) (part.Padding end)
          (reaches_append _ all (part.Front 0) (part.Head room (length all) 0) (part.Padding room)
          (reaches_append _ (word (header_word f)) (part.Front 0) part.HeaderLow (part.Head room (length all) 0)
          (reaches_append (f.destination ++ f.source) (0x88 ∷ 0xA4 ∷ []) (part.Front 0) (part.Front 12) part.HeaderLow head type) header) body) (padding_takes room f.padding w.padded),
    )
  where
    some : (g : FrameValue) → IsFrame g → 0 < length g.datagrams
    some g v = some_datagram g.datagrams (omega (arith, v.least))
