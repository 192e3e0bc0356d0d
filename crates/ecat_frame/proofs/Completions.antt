-- From each place that is reached some bytes complete the frame.
use Rattle.std.proofs.Common.{◌≡◌, ℕ, suc, zero, ◌+◌, ◌-◌, ◌*◌, ◌/◌, ◌%◌, ◌<◌, ◌≤◌, ◌⊎◌, List, [], ◌∷◌, ◌++◌, length, Ok, refl, arith, sym, ap, inl, inr, subst, replicate}
use Rattle.std.proofs.lemmas.List.{length-replicate}
use Rattle.std.proofs.lemmas.List.Elements.{All-append, All-cons, All-nil, All-replicate}
use Rattle.std.proofs.lemmas.Bool.{cases_lt}
use Rattle.std.proofs.lemmas.Bool.Decides.{nat_tests}
use Rattle.ecat_frame.specs.FrameGrammar.{AreBytes}
use Rattle.ecat_frame.specs.InsideScan.{IsLive}
use Rattle.ecat_frame.specs.FramePart.{Part}
use Rattle.ecat_frame.specs.Refusals.{Reaches, behind, room_for, step}
use Rattle.ecat_frame.specs.FramePart as part
use Rattle.ecat_frame.proofs.FrameRead.{FitsLeft, body_takes, front_takes, low_step, high_step, behind_more}
use Rattle.ecat_frame.proofs.Steps.{reaches_append}

-- some bytes lead to the end of a frame
pub record Completes (p : Part) : Type 0 where
  pub rest : List ℕ
  pub are : AreBytes rest
  pub room : ℕ
  pub goes : Reaches p rest (part.Padding room)

abbrev IsByte : ℕ → Type 0
IsByte b = b < 256

through : (p q : Part) (xs : List ℕ) → AreBytes xs → Reaches p xs q → Completes q → Completes p
through p q xs are h c = record { rest = xs ++ c.rest; are = All-append IsByte xs c.rest are c.are; room = c.room; goes = reaches_append xs c.rest p q (part.Padding c.room) h c.goes }

one_byte : (a : ℕ) → a < 256 → AreBytes (a ∷ [])
one_byte a h = All-cons IsByte a [] h (All-nil IsByte)

two_bytes : (a b : ℕ) → a < 256 → b < 256 → AreBytes (a ∷ b ∷ [])
two_bytes a b h k = All-cons IsByte a (b ∷ []) h (one_byte b k)

abbrev zeros : ℕ → List ℕ
zeros n = replicate n 0

zero_bytes : (n : ℕ) → AreBytes (zeros n)
zero_bytes n = All-replicate IsByte n 0 (omega arith)

length-zeros : (n : ℕ) → n ≡ length (zeros n)
length-zeros n = sym (length-replicate n 0)

complete_end : (room : ℕ) → Completes (part.Padding room)
complete_end room = record { rest = []; are = All-nil IsByte; room = room; goes = refl }

complete_body_last : (room body : ℕ) → 0 < body → Completes (part.Body room 0 body)
complete_body_last room body some = through _ (part.Padding room) (zeros body) (zero_bytes body) (body_takes room 0 body (zeros body) (length-zeros body) some) (complete_end room)

fits_last : (left : ℕ) → 12 ≤ left → left ≤ 1498 → FitsLeft left (left - 12)
fits_last left least most = record { within = omega arith; follows = inl (omega arith, omega arith) }

-- a length word that takes all that is left
complete_low : (room left : ℕ) → 12 ≤ left → left ≤ 1498 → Completes (part.LengthLow room left)
complete_low room left least most =
    let fits = fits_last left least most in
    let w = left - 12 in
    let after : left - (12 + w % 2048) ≡ 0 = omega arith in
    through _ (part.Body room 0 (w % 2048 + 4)) (w % 256 ∷ w / 256 % 256 ∷ []) (two_bytes (w % 256) (w / 256 % 256) (omega arith) (omega arith)) (
      part.LengthHigh room left (w % 256),
      (
        low_step room left w (omega arith) fits,
        (part.Body room (left - (12 + w % 2048)) (w % 2048 + 4), (high_step room left w (omega arith) fits, ap (λ a. part.Body room a (w % 2048 + 4)) after)),
      ),
    )
    (complete_body_last room (w % 2048 + 4) (omega arith))

-- the head of a datagram goes on to its length word
to_length : (room left j k : ℕ) → k + j ≡ 5 → Reaches (part.Head room left k) (replicate (suc j) 0) (part.LengthLow room left)
to_length room left zero k e = let f : k ≡ 5 = omega arith in (part.LengthLow room left, (rw f refl, refl))
to_length room left (suc j) k e =
    (part.Head room left (k + 1), (head_on k (omega arith), to_length room left j (k + 1) (omega arith)))
  where
    head_on : (i : ℕ) → i < 5 → step (part.Head room left i) 0 ≡ Ok (part.Head room left (i + 1))
    head_on i h = grind (arith, nat_tests)

complete_head : (room left at : ℕ) → 12 ≤ left → left ≤ 1498 → at < 6 → Completes (part.Head room left at)
complete_head room left at least most h =
    through _ (part.LengthLow room left) (zeros (suc (5 - at))) (zero_bytes (suc (5 - at))) (to_length room left (5 - at) at (omega arith)) (complete_low room left least most)

complete_body : (room left body : ℕ) → 0 < body → left ≤ 1498 → (left ≡ 0) ⊎ (12 ≤ left) → Completes (part.Body room left body)
complete_body room left body some most (inl h) = rw h (complete_body_last room body some)
complete_body room left body some most (inr h) =
    through _ (behind room left) (zeros body) (zero_bytes body) (body_takes room left body (zeros body) (length-zeros body) some) (rw (behind_more room left (omega arith)) (complete_head room left 0 h most (omega arith)))

high_last : (room left low : ℕ) → 12 + low ≡ left → low < 256 → step (part.LengthHigh room left low) 0 ≡ Ok (part.Body room 0 (low + 4))
high_last room left low h small = grind (arith, nat_tests)

high_more : (room left low : ℕ) → 24 + low ≤ left → low < 256 → step (part.LengthHigh room left low) 128 ≡ Ok (part.Body room (left - (12 + low)) (low + 4))
high_more room left low h small = grind (arith, nat_tests)

complete_high : (room left low : ℕ) → left ≤ 1498 → (12 + low ≡ left) ⊎ (24 + low ≤ left) → low < 256 → Completes (part.LengthHigh room left low)
complete_high room left low most (inl h) small =
    through _ (part.Body room 0 (low + 4)) (0 ∷ []) (one_byte 0 (omega arith)) (part.Body room 0 (low + 4), (high_last room left low h small, refl)) (complete_body_last room (low + 4) (omega arith))
complete_high room left low most (inr h) small =
    through _ (part.Body room (left - (12 + low)) (low + 4)) (128 ∷ []) (one_byte 128 (omega arith)) (part.Body room (left - (12 + low)) (low + 4), (high_more room left low h small, refl))
    (complete_body room (left - (12 + low)) (low + 4) (omega arith) (omega arith) (inr (omega arith)))

header_on : (low : ℕ) → low < 256 → step (part.HeaderHigh low) 17 ≡ Ok (part.Head (room_for (low + 256)) (low + 256) 0)
header_on low h =
    let one : (low + 256 * 17) / 4096 ≡ 1 = omega arith in
    let size : (low + 256 * 17) % 2048 ≡ low + 256 = omega arith in
    rw (one, size) (grind (arith, nat_tests))

complete_header : (low : ℕ) → low < 256 → Completes (part.HeaderHigh low)
complete_header low h =
    through _ (part.Head (room_for (low + 256)) (low + 256) 0) (17 ∷ []) (one_byte 17 (omega arith)) (part.Head (room_for (low + 256)) (low + 256) 0, (header_on low h, refl))
    (complete_head (room_for (low + 256)) (low + 256) 0 (omega arith) (omega arith) (omega arith))

complete_word : Completes part.HeaderLow
complete_word = through _ (part.HeaderHigh 0) (0 ∷ []) (one_byte 0 (omega arith)) (part.HeaderHigh 0, (refl, refl)) (complete_header 0 (omega arith))

complete_front : (n : ℕ) → n < 14 → Completes (part.Front n)
complete_front n h =
    elim (cases_lt n 13) [
      | inl low ↦
          let e : n + length (zeros (12 - n)) ≡ 12 = let a = length-zeros (12 - n) in omega arith in
          through _ (part.Front 12) (zeros (12 - n)) (zero_bytes (12 - n)) (subst (λ m. Reaches (part.Front n) (zeros (12 - n)) (part.Front m)) e (front_takes n (zeros (12 - n)) (omega arith)))
          (through _ part.HeaderLow (0x88 ∷ 0xA4 ∷ []) (two_bytes 0x88 0xA4 (omega arith) (omega arith)) (part.Front 13, (refl, (part.HeaderLow, (refl, refl)))) complete_word)
      | inr last ↦
          let e : n ≡ 13 = omega arith in
          rw e (through _ part.HeaderLow (0xA4 ∷ []) (one_byte 0xA4 (omega arith)) (part.HeaderLow, (refl, refl)) complete_word)
    ]

pub completes : (p : Part) → IsLive p → Completes p
completes (part.Front n) h = complete_front n h
completes part.HeaderLow h = complete_word
completes (part.HeaderHigh low) h = complete_header low h
completes (part.Head room left at) h = complete_head room left at h.0 h.1 h.2
completes (part.LengthLow room left) h = complete_low room left h.0 h.1
completes (part.LengthHigh room left low) h = complete_high room left low h.0 h.1 h.2
completes (part.Body room left body) h = complete_body room left body h.0 h.1 h.2
completes (part.Padding room) h = complete_end room
