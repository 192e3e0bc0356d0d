-- The bytes that belong to no register stay 0.
use Rattle.std.proofs.Common.{◌≡◌, ℕ, zero, suc, ◌+◌, ◌-◌, ◌%◌, ◌^◌, ◌<◌, ◌≤◌, Bool, true, false, List, length, slice_index, refl, arith, sym, ap, ◌∙◌, inl, inr}
use Rattle.std.specs.Prelude.{slice_range, replicate}
use Rattle.std.proofs.lemmas.Grind.{common_steps}
use Rattle.std.proofs.lemmas.Bool.{cases_lt, both_ways}
use Rattle.std.proofs.Math.Nat.{div-eq_of_lt}
use Rattle.std.proofs.lemmas.List.{get_or-replicate, get_or_past, length-replicate}
use Rattle.std.specs.Int.{byte_at}
use Rattle.esc_regs.specs.declared.clock_kind.ClockKind.{ClockKind}
use Rattle.esc_regs.specs.RegisterBytes.{with_number, number_at}
use Rattle.esc_regs.specs.RegisterTable.{is_register, is_wide, is_within, held, is_defined}
use Rattle.esc_regs.specs.RegisterAccess.{Stores, byte_after, is_writable}
use Rattle.esc_regs.specs.RegisterFile.{Registers, HasZeros, IsWhole}
use Rattle.esc_regs.proofs.Numbers.{byte_outside, byte_inside, upper_zeros}
use Rattle.esc_regs.proofs.TableFacts.{register_defined, undefined_ignored, held_all, lacks_second, upper_undefined}

byte_past : (j x : ℕ) → 4 ≤ j → j < 8 → x < 2 ^ 32 → byte_at j x ≡ 0
byte_past zero x low high small = absurd (omega arith)
byte_past (suc zero) x low high small = absurd (omega arith)
byte_past (suc (suc zero)) x low high small = absurd (omega arith)
byte_past (suc (suc (suc zero))) x low high small = absurd (omega arith)
byte_past (suc (suc (suc (suc zero)))) x low high small = ap (λ y. y % 256) (div-eq_of_lt small)
byte_past (suc (suc (suc (suc (suc zero))))) x low high small =
    let less : x < 256 ^ 5 = omega arith in
    ap (λ y. y % 256) (div-eq_of_lt less)
byte_past (suc (suc (suc (suc (suc (suc zero)))))) x low high small =
    let less : x < 256 ^ 6 = omega arith in
    ap (λ y. y % 256) (div-eq_of_lt less)
byte_past (suc (suc (suc (suc (suc (suc (suc zero))))))) x low high small =
    let less : x < 256 ^ 7 = omega arith in
    ap (λ y. y % 256) (div-eq_of_lt less)
byte_past (suc (suc (suc (suc (suc (suc (suc (suc j)))))))) x low high small = absurd (omega arith)

-- where a byte of no register stands from a register on
pub past_held : (kind : ClockKind) (addr n a : ℕ) → is_register addr n ≡ true → is_defined kind a ≡ false → addr ≤ a → addr + held kind n ≤ a
past_held kind addr n a register undefined low =
    elim (cases_lt a (addr + held kind n)) [
      | inl inside ↦ absurd (both_ways (is_defined kind a) undefined (register_defined kind addr n a register low inside))
      | inr past ↦ past
    ]

zero_after_set : (kind : ClockKind) (addr n x : ℕ) (bytes : List ℕ) (a : ℕ) → is_register addr n ≡ true → addr + n ≤ length bytes → (n ≡ 8 → is_wide kind ≡ false → x < 2 ^ 32) → HasZeros kind bytes → is_defined kind a ≡ false → slice_index (with_number n addr x bytes) a ≡ 0
zero_after_set kind addr n x bytes a register room narrow zeros undefined =
    elim (cases_lt a addr) [
      | inl before ↦ byte_outside n addr x bytes a room (inl before) ∙ zeros.zero_at a undefined
      | inr from ↦ elim (cases_lt a (addr + n)) [
        | inr past ↦ byte_outside n addr x bytes a room (inr past) ∙ zeros.zero_at a undefined
        | inl inside ↦
            let after = past_held kind addr n a register undefined from in
            elim (held_all kind n) [
              | inl all ↦ absurd (omega (arith, all, after))
              | inr half ↦
                  let small = narrow half.0 half.1 in
                  let e : addr + (a - addr) ≡ a = omega arith in
                  let byte : slice_index (with_number n addr x bytes) (addr + (a - addr)) ≡ byte_at (a - addr) x = byte_inside n addr x bytes (a - addr) room (omega arith) in
                  ap (slice_index (with_number n addr x bytes)) (sym e) ∙ byte ∙ byte_past (a - addr) x (omega (arith, half.2, after)) (omega (arith, half.0)) small
            ]
      ]
    ]

pub zeros_after_set : (kind : ClockKind) (addr n x : ℕ) (bytes : List ℕ) → is_register addr n ≡ true → addr + n ≤ length bytes → (n ≡ 8 → is_wide kind ≡ false → x < 2 ^ 32) → HasZeros kind bytes → HasZeros kind (with_number n addr x bytes)
zeros_after_set kind addr n x bytes register room narrow zeros =
    record { zero_at = λ a undefined. zero_after_set kind addr n x bytes a register room narrow zeros undefined }

unchanged : (kind : ClockKind) (in_range : Bool) (addr : ℕ) (bytes before : List ℕ) (a : ℕ) → is_writable kind in_range a ≡ false → byte_after kind in_range addr bytes before a ≡ slice_index before a
unchanged kind in_range addr bytes before a ignored = rw (lacks_second (is_within a addr (length bytes)) (is_writable kind in_range a) ignored) refl

pub zeros_after_write : (kind : ClockKind) (in_range : Bool) (addr : ℕ) (bytes before after : List ℕ) → Stores kind in_range addr bytes before after → HasZeros kind before → HasZeros kind after
zeros_after_write kind in_range addr bytes before after stored zeros =
    record {
      zero_at = λ a undefined.
          stored.each a ∙ unchanged kind in_range addr bytes before a (undefined_ignored kind in_range a undefined) ∙ zeros.zero_at a undefined;
    }

pub zero_of : (n a : ℕ) → slice_index (replicate n 0) a ≡ 0
zero_of n a =
    let z : ℕ = 0 in
    elim (cases_lt a n) [
      | inl h ↦ get_or-replicate n a z z h
      | inr h ↦ let past : length (replicate n z) ≤ a = rw (length-replicate n z) h in get_or_past (replicate n z) a z past
    ]

pub zeros_of_none : (kind : ClockKind) (n : ℕ) → HasZeros kind (replicate n 0)
zeros_of_none kind n = record { zero_at = λ a undefined. zero_of n a }

pub zero_read : (kind : ClockKind) (bytes : List ℕ) (addr n k : ℕ) → HasZeros kind bytes → addr + n ≤ length bytes → k < n → is_defined kind (addr + k) ≡ false → slice_index (slice_range bytes addr (addr + n)) k ≡ 0
zero_read kind bytes addr n k zeros room h undefined =
    let z = zeros.zero_at (addr + k) undefined in
    let e : slice_index (slice_range bytes addr (addr + n)) k ≡ slice_index bytes (addr + k) = grind (arith, common_steps) in
    e ∙ z

pub zeros_along : (kind : ClockKind) (old new : List ℕ) → new ≡ old → HasZeros kind old → HasZeros kind new
zeros_along kind old new is zeros = record { zero_at = λ a undefined. ap (λ bytes. slice_index bytes a) is ∙ zeros.zero_at a undefined }

-- a register of 8 bytes holds its lower half alone where the clock does not have 64 bits
pub narrow_number : (kind : ClockKind) (addr n x at : ℕ) (bytes : List ℕ) → at ≡ addr → n ≡ 8 → is_wide kind ≡ false → is_register addr n ≡ true → HasZeros kind bytes → x ≡ number_at n at bytes → number_at 4 at bytes < 2 ^ 32 → x < 2 ^ 32
narrow_number kind addr n x at bytes is eight narrow register zeros number low =
    let there : is_register addr 8 ≡ true = ap (is_register addr) (sym eight) ∙ register in
    let upper : (k : ℕ) → 4 ≤ k → k < 8 → slice_index bytes (at + k) ≡ 0 =
    λ k from to. ap (λ a. slice_index bytes (a + k)) is ∙ zeros.zero_at (addr + k) (upper_undefined kind addr narrow there k from to) in
    let half : x ≡ number_at 4 at bytes = number ∙ ap (λ m. number_at m at bytes) eight ∙ upper_zeros at bytes upper in
    omega (arith, half, low)

pub narrow_half : (r : Registers) (addr : ℕ) → IsWhole r → is_wide r.kind ≡ false → is_register addr 8 ≡ true → number_at 8 addr r.bytes ≡ number_at 4 addr r.bytes
narrow_half r addr whole narrow register =
    upper_zeros addr r.bytes (λ k low high. whole.zeros.zero_at (addr + k) (upper_undefined r.kind addr narrow register k low high))
