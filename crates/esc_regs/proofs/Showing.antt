-- A read with a live number laid over what is held.
use Rattle.std.proofs.Common.{◌≡◌, ℕ, ◌+◌, ◌-◌, ◌<◌, ◌≤◌, ◌&&◌, Bool, true, false, List, length, take, slice_index, refl, sym, ap, ◌∙◌, arith, inl, inr}
use Rattle.std.specs.Prelude.{if◌then◌else◌, min, max, slice_range, Option, Some, None}
use Rattle.std.specs.Int.{byte_at, bytes_low_first}
use Rattle.byteorder.specs.Numbers.{length-bytes_low_first}
use borrow.Rule.Slice.PartMut.{put_mid}
use Rattle.std.proofs.lemmas.Bool.{cases_lt}
use Rattle.std.proofs.lemmas.Grind.{common_steps, same_number_lists}
use Rattle.esc_regs.specs.declared.clock_kind.ClockKind.{ClockKind}
use Rattle.esc_regs.specs.RegisterBytes.{with_number}
use Rattle.esc_regs.specs.RegisterTable.{held, is_within}
use Rattle.esc_regs.specs.ShownRegisters.{showing}
use Rattle.esc_regs.proofs.Numbers.{byte_outside, byte_inside, byte_of_number, same_length}
use Rattle.esc_regs.proofs.TableFacts.{within_test, before_test, past_test}

pub range_byte : (bytes : List ℕ) (s n k : ℕ) → s + n ≤ length bytes → k < n → slice_index (slice_range bytes s (s + n)) k ≡ slice_index bytes (s + k)
range_byte bytes s n k room h = grind (arith, common_steps)

pub range_length : (bytes : List ℕ) (s n : ℕ) → s + n ≤ length bytes → length (slice_range bytes s (s + n)) ≡ n
range_length bytes s n room = grind (arith, common_steps)

pub laid_over : (m at x start : ℕ) (over out new bytes : List ℕ) → at + m ≤ length bytes → start + length out ≤ length bytes → length new ≡ length out → length over ≡ m
    → ((j : ℕ) → j < m → slice_index over j ≡ byte_at j x)
    → ((k : ℕ) → k < length out → slice_index new k ≡ (if is_within (start + k) at (length over) then slice_index over (start + k - at) else slice_index out k))
    → out ≡ slice_range bytes start (start + length out) → new ≡ slice_range (with_number m at x bytes) start (start + length out)
laid_over m at x start over out new bytes room fits size long digits each is =
    let n : ℕ = length out in
    let after : List ℕ = with_number m at x bytes in
    let same : length after ≡ length bytes = same_length m at x bytes room in
    same_number_lists new (slice_range after start (start + n)) (size ∙ sym (range_length after start n (omega (arith, same, fits)))) (λ k h.
    let inside : k < n = omega (arith, size, h) in
    let old : slice_index out k ≡ slice_index bytes (start + k) = ap (λ xs. slice_index xs k) is ∙ range_byte bytes start n k fits inside in
    let byte : (if is_within (start + k) at (length over) then slice_index over (start + k - at) else slice_index out k) ≡ slice_index after (start + k) =
    elim (cases_lt (start + k) at) [
      | inl before ↦
          rw (before_test (start + k) at (length over) before) (old ∙ sym (byte_outside m at x bytes (start + k) room (inl before)))
      | inr from ↦ elim (cases_lt (start + k) (at + m)) [
        | inl within ↦
            let e : at + (start + k - at) ≡ start + k = omega arith in
            rw (within_test (start + k) at (length over) from (omega (arith, long, within)))
            (digits (start + k - at) (omega arith) ∙ sym (byte_inside m at x bytes (start + k - at) room (omega arith)) ∙ ap (slice_index after) e)
        | inr past ↦
            rw (past_test (start + k) at (length over) (omega (arith, long, past))) (old ∙ sym (byte_outside m at x bytes (start + k) room (inr past)))
      ]
    ] in
    each k inside ∙ byte ∙ sym (range_byte after start n k (omega (arith, same, fits)) inside))

pub showing_length : (kind : ClockKind) (at : ℕ) (number : Option ℕ) (bytes : List ℕ) → at + held kind 8 ≤ length bytes → length (showing kind at number bytes) ≡ length bytes
showing_length kind at None bytes room = refl
showing_length kind at (Some x) bytes room = same_length (held kind 8) at x bytes room

-- the lowest m of the 8 bytes of a number
pub cut_digits : (m x j : ℕ) (digits : List ℕ) → digits ≡ bytes_low_first 0 8 x → m ≤ 8 → j < m → slice_index (take m digits) j ≡ byte_at j x
cut_digits m x j digits is few h =
    let e : 0 + j ≡ j = omega arith in
    let cut : slice_index (take m digits) j ≡ slice_index digits j = grind (arith, common_steps) in
    cut ∙ ap (λ ds. slice_index ds j) is ∙ byte_of_number 0 8 x j (omega arith) ∙ ap (λ i. byte_at i x) e

pub cut_length : (m x : ℕ) (digits : List ℕ) → digits ≡ bytes_low_first 0 8 x → m ≤ 8 → length (take m digits) ≡ m
cut_length m x digits is few =
    let eight : length digits ≡ 8 = ap length is ∙ length-bytes_low_first 0 8 x in
    grind (arith, common_steps)

-- both live numbers, one after the other
pub shown_twice : (kind kind' : ClockKind) (time due : Option ℕ) (start addr n : ℕ) (bytes out mid new : List ℕ) → kind' ≡ kind → start ≡ addr → length bytes ≡ 4096 → length out ≡ n → length mid ≡ n
    → out ≡ slice_range bytes addr (addr + n)
    → ((xs : List ℕ) → length xs ≡ 4096 → out ≡ slice_range xs start (start + length out) → mid ≡ slice_range (showing kind' 0x0910 time xs) start (start + length out))
    → ((xs : List ℕ) → length xs ≡ 4096 → mid ≡ slice_range xs start (start + length mid) → new ≡ slice_range (showing kind' 0x0990 due xs) start (start + length mid))
    → held kind' 8 ≤ 8
    → new ≡ slice_range (showing kind 0x0990 due (showing kind 0x0910 time bytes)) addr (addr + n)
shown_twice kind kind' time due start addr n bytes out mid new k a size l0 l1 is first second few =
    let once : List ℕ = showing kind' 0x0910 time bytes in
    let long : length once ≡ 4096 = showing_length kind' 0x0910 time bytes (omega (arith, size, few)) ∙ size in
    let p0 : out ≡ slice_range bytes start (start + length out) =
    is ∙ ap (λ x. slice_range bytes x (x + n)) (sym a) ∙ ap (λ m. slice_range bytes start (start + m)) (sym l0) in
    let p1 : mid ≡ slice_range once start (start + length mid) =
    first bytes size p0 ∙ ap (λ m. slice_range once start (start + m)) (l0 ∙ sym l1) in
    second once long p1
    ∙ ap (λ m. slice_range (showing kind' 0x0990 due once) start (start + m)) l1
    ∙ ap (λ x. slice_range (showing kind' 0x0990 due once) x (x + n)) a
    ∙ ap (λ c. slice_range (showing c 0x0990 due (showing c 0x0910 time bytes)) addr (addr + n)) k

-- a part of a list put back
put_before : (a k : ℕ) (xs ys : List ℕ) (j : ℕ) → length ys ≡ k → a + k ≤ length xs → j < a → slice_index (put_mid a k xs ys) j ≡ slice_index xs j
put_before a k xs ys j long room h = grind (arith, common_steps)

put_inside : (a k : ℕ) (xs ys : List ℕ) (j : ℕ) → length ys ≡ k → a + k ≤ length xs → j < k → slice_index (put_mid a k xs ys) (a + j) ≡ slice_index ys j
put_inside a k xs ys j long room h = grind (arith, common_steps)

put_past : (a k : ℕ) (xs ys : List ℕ) (j : ℕ) → length ys ≡ k → a + k ≤ length xs → a + k ≤ j → slice_index (put_mid a k xs ys) j ≡ slice_index xs j
put_past a k xs ys j long room h = grind (arith, common_steps)

pub put_byte : (a k : ℕ) (xs ys : List ℕ) (j : ℕ) → length ys ≡ k → a + k ≤ length xs → slice_index (put_mid a k xs ys) j ≡ (if is_within j a k then slice_index ys (j - a) else slice_index xs j)
put_byte a k xs ys j long room =
    elim (cases_lt j a) [
      | inl before ↦ rw (before_test j a k before) (put_before a k xs ys j long room before)
      | inr from ↦ elim (cases_lt j (a + k)) [
        | inl within ↦
            let e : a + (j - a) ≡ j = omega arith in
            rw (within_test j a k from within) (ap (slice_index (put_mid a k xs ys)) (sym e) ∙ put_inside a k xs ys (j - a) long room (omega arith))
        | inr past ↦ rw (past_test j a k past) (put_past a k xs ys j long room past)
      ]
    ]

-- what two lists have in common, copied from one to the other
pub overlaid : (at addr low high : ℕ) (under over part : List ℕ) → low ≡ max at addr → high ≡ min (at + length under) (addr + length over) → low < high
    → part ≡ slice_range over (low - addr) (high - addr) → (k : ℕ) → k < length under
    → slice_index (put_mid (low - at) (high - at - (low - at)) under part) k ≡ (if is_within (at + k) addr (length over) then slice_index over (at + k - addr) else slice_index under k)
overlaid at addr low high under over part l h some is k inside =
    let n : ℕ = high - at - (low - at) in
    let e : high - addr ≡ low - addr + n = omega (arith, l, h, some) in
    let copied : part ≡ slice_range over (low - addr) (low - addr + n) = is ∙ ap (λ b. slice_range over (low - addr) b) e in
    let room : low - addr + n ≤ length over = omega (arith, l, h, some) in
    let long : length part ≡ n = ap length copied ∙ range_length over (low - addr) n room in
    let fits : low - at + n ≤ length under = omega (arith, l, h, some) in
    put_byte (low - at) n under part k long fits
    ∙ elim (cases_lt (at + k) low) [
      | inl before ↦
          rw (before_test k (low - at) n (omega (arith, l, before)))
          (sym (rw (before_test (at + k) addr (length over) (omega (arith, l, before))) refl))
      | inr from ↦ elim (cases_lt (at + k) high) [
        | inl within ↦
            let f : low - addr + (k - (low - at)) ≡ at + k - addr = omega (arith, l, from) in
            let g : k - (low - at) < n = omega (arith, l, from, within) in
            rw (within_test k (low - at) n (omega (arith, l, from)) (omega (arith, l, from, within)), within_test (at + k) addr (length over) (omega (arith, l, from)) (omega (arith, h, within)))
            (ap (λ xs. slice_index xs (k - (low - at))) copied ∙ range_byte over (low - addr) n (k - (low - at)) room g ∙ ap (slice_index over) f)
        | inr past ↦
            rw (past_test k (low - at) n (omega (arith, l, some, past)), past_test (at + k) addr (length over) (omega (arith, h, inside, past))) refl
      ]
    ]

-- bytes laid over a part of a list
pub laid_in : (at n addr : ℕ) (bytes held part : List ℕ) → at + n ≤ length held → length part ≡ n
    → ((k : ℕ) → k < n → slice_index part k ≡ (if is_within (at + k) addr (length bytes) then slice_index bytes (at + k - addr) else slice_index held (at + k)))
    → (a : ℕ) → slice_index (put_mid at (at + n - at) held part) a ≡ (if is_within a addr (length bytes) && is_within a at n then slice_index bytes (a - addr) else slice_index held a)
laid_in at n addr bytes held part room long each a =
    let e : at + n - at ≡ n = omega arith in
    let here : slice_index (put_mid at (at + n - at) held part) a ≡ (if is_within a at n then slice_index part (a - at) else slice_index held a) =
    rw e (put_byte at n held part a long room) in
    here
    ∙ elim (cases_lt a at) [
      | inl before ↦ rw (before_test a at n before) (outside (is_within a addr (length bytes)) (slice_index bytes (a - addr)) (slice_index held a))
      | inr from ↦ elim (cases_lt a (at + n)) [
        | inl within ↦
            let f : at + (a - at) ≡ a = omega arith in
            let byte : slice_index part (a - at) ≡ (if is_within a addr (length bytes) then slice_index bytes (a - addr) else slice_index held a) =
            rw f at (each (a - at) (omega arith)) in
            rw (within_test a at n from within) (byte ∙ inside (is_within a addr (length bytes)) (slice_index bytes (a - addr)) (slice_index held a))
        | inr past ↦ rw (past_test a at n past) (outside (is_within a addr (length bytes)) (slice_index bytes (a - addr)) (slice_index held a))
      ]
    ]
  where
    outside : (b : Bool) (x y : ℕ) → y ≡ (if b && false then x else y)
    outside true x y = refl
    outside false x y = refl

    inside : (b : Bool) (x y : ℕ) → (if b then x else y) ≡ (if b && true then x else y)
    inside true x y = refl
    inside false x y = refl
