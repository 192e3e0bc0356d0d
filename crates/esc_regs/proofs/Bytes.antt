-- Each byte of the registers is below 256, whatever is written and shown.
use Rattle.std.specs.Prelude.{◌≡◌, ℕ, zero, suc, ◌+◌, ◌^◌, ◌<◌, ◌&&◌, ◌++◌, List, length, slice_index, true, false, Bool, if◌then◌else◌, take, drop}
use Rattle.std.specs.Int.{byte_at, bytes_low_first}
use Rattle.std.proofs.Common.{arith, inl, inr}
use Rattle.std.proofs.lemmas.Bool.{cases_lt}
use Rattle.std.proofs.lemmas.List.{get_or_past}
use Rattle.std.proofs.lemmas.List.Elements.{All-nil, All-cons, All-from_get_or, All-get_or, All-append, All-take, All-drop}
use Rattle.std.proofs.Math.Nat.{mod-lt}
use Rattle.esc_regs.specs.declared.clock_kind.ClockKind.{ClockKind}
use Rattle.esc_regs.specs.RegisterBytes.{number_at, with_number, AreBytes}
use Rattle.esc_regs.specs.RegisterAccess.{Stores, byte_after, is_writable}
use Rattle.esc_regs.specs.RegisterTable.{is_within}
use Rattle.esc_regs.proofs.Numbers.{number_fits}

pub bytes_below : (bytes : List ℕ) → ((j : ℕ) → slice_index bytes j < 256) → AreBytes bytes
bytes_below bytes fit = All-from_get_or (λ b. b < 256) bytes 0 (λ j _. fit j)

pub byte_below : (bytes : List ℕ) → AreBytes bytes → (j : ℕ) → slice_index bytes j < 256
byte_below bytes are j = elim (cases_lt j (length bytes)) [
  | inl inside ↦ All-get_or (λ b. b < 256) bytes j 0 inside are
  | inr past ↦ let e : slice_index bytes j ≡ 0 = get_or_past bytes j 0 past in omega (arith, e)
]

pub whole_number_fits : (n at : ℕ) (bytes : List ℕ) → AreBytes bytes → number_at n at bytes < 256 ^ n
whole_number_fits n at bytes are = number_fits n at bytes (byte_below bytes are)

digit_below : (k x : ℕ) → byte_at k x < 256
digit_below zero x = mod-lt x (omega arith)
digit_below (suc k) x = mod-lt _ (omega arith)

digits_below : (i n x : ℕ) → AreBytes (bytes_low_first i n x)
digits_below i zero x = All-nil (λ b. b < 256)
digits_below i (suc n) x = All-cons (λ b. b < 256) (byte_at i x) (bytes_low_first (suc i) n x) (digit_below i x) (digits_below (suc i) n x)

-- a number that is written
pub bytes_after_set : (n at x : ℕ) (bytes : List ℕ) → AreBytes bytes → AreBytes (with_number n at x bytes)
unfolding with_number
bytes_after_set n at x bytes are =
    All-append (λ b. b < 256) (take at bytes ++ bytes_low_first 0 n x) (drop (at + n) bytes)
    (All-append (λ b. b < 256) (take at bytes) (bytes_low_first 0 n x) (All-take (λ b. b < 256) at bytes are) (digits_below 0 n x))
    (All-drop (λ b. b < 256) (at + n) bytes are)

-- a write
pub bytes_after_write : (kind : ClockKind) (in_range : Bool) (addr : ℕ) (bytes before after : List ℕ) → Stores kind in_range addr bytes before after
    → AreBytes bytes → AreBytes before → AreBytes after
bytes_after_write kind in_range addr bytes before after stored are held =
    bytes_below after (λ a.
    let byte : byte_after kind in_range addr bytes before a < 256 =
    either (is_within a addr (length bytes)) (is_writable kind in_range a) _ _ (byte_below bytes are _) (byte_below before held a) in
    rw (stored.each a) byte)
  where
    either : (b c : Bool) (x y : ℕ) → x < 256 → y < 256 → (if b && c then x else y) < 256
    either true true x y p q = p
    either true false x y p q = q
    either false c x y p q = q
