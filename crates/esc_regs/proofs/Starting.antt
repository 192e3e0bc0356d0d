-- The numbers of all registers after those that do not start at 0 are set.
use Rattle.std.proofs.Common.{◌≡◌, ℕ, zero, suc, ◌+◌, ◌-◌, ◌<◌, ◌≤◌, ◌⊎◌, ◌&&◌, ◌==◌, Bool, true, false, List, [], ◌∷◌, length, slice_index, rules, refl, arith, sym, ap, ap₂, ◌∙◌, subst, inl, inr}
use Rattle.std.specs.Prelude.{if◌then◌else◌, replicate}
use Rattle.std.specs.List.{AllByRecursion, list_all, list_any}
use Rattle.std.proofs.lemmas.Bool.{eqb-true}
use Rattle.std.proofs.lemmas.Grind.{same_number_lists}
use Rattle.std.proofs.lemmas.List.{length-replicate}
use Rattle.std.proofs.lemmas.List.Elements.{All-replicate}
use Rattle.std.specs.Int.{byte_at}
use Rattle.std.proofs.lemmas.Bool.{cases_lt}
use Rattle.esc_regs.specs.declared.clock_kind.ClockKind.{ClockKind}
use Rattle.esc_regs.specs.declared.clock_kind.ClockKind.TheVariants as kind
use Rattle.esc_regs.specs.RegisterBytes.{AreBytes, with_number, number_at}
use Rattle.esc_regs.specs.RegisterTable.{Register, registers, features, held, is_defined, is_register, is_within}
use Rattle.esc_regs.specs.RegisterFile.{IsWhole, Registers, StartsBy}
use Rattle.esc_regs.specs.StartOfRegisters.{bytes_at_start, registers_at_start, with_starts}
use Rattle.esc_regs.proofs.Bytes.{bytes_after_set}
use Rattle.esc_regs.proofs.Numbers.{byte_outside, byte_inside, number_by, number_by-is, same_length}
use Rattle.esc_regs.proofs.Storing.{decide}
use Rattle.esc_regs.proofs.TableFacts.{both, held_all, within_test, before_test, past_test}
use Rattle.esc_regs.proofs.Zeros.{past_held, zero_of}

-- the bytes f with the number x of n bytes written at a place
abbrev pub put : ℕ → ℕ → ℕ → (ℕ → ℕ) → ℕ → ℕ
put n at x f a = if is_within a at n then byte_at (a - at) x else f a

-- the bytes at the start
abbrev pub start_byte : ClockKind → ℕ → ℕ
start_byte kind =
    put 1 0x0935 12 (put 1 0x0934 4 (put 2 0x0930 0x1000 (put 2 0x0008 (features kind) (put 1 0x0000 0x11 (λ a. 0)))))

pub put_is : (n at x : ℕ) (old new : List ℕ) (f : ℕ → ℕ) → new ≡ with_number n at x old → at + n ≤ length old → ((a : ℕ) → slice_index old a ≡ f a) → (a : ℕ) → slice_index new a ≡ put n at x f a
put_is n at x old new f is room same a =
    ap (λ bytes. slice_index bytes a) is
    ∙ elim (cases_lt a at) [
      | inl before ↦ rw (before_test a at n before) (byte_outside n at x old a room (inl before) ∙ same a)
      | inr from ↦ elim (cases_lt a (at + n)) [
        | inl inside ↦
            let e : at + (a - at) ≡ a = omega arith in
            rw (within_test a at n from inside) (ap (slice_index (with_number n at x old)) (sym e) ∙ byte_inside n at x old (a - at) room (omega arith))
        | inr past ↦ rw (past_test a at n past) (byte_outside n at x old a room (inr past) ∙ same a)
      ]
    ]

rows_start : (kind : ClockKind) → AllByRecursion (λ r. number_by (start_byte kind) r.bytes r.addr ≡ r.start kind) registers
unfolding number_by
rows_start kind.None = (refl, (refl, (refl, (refl, (refl, (refl, (refl, (refl, (refl, (refl, (refl, (refl, (refl, (refl, (refl, (refl, (refl, (refl, (refl, (refl, (refl, (refl, (refl, ((refl, tt)))))))))))))))))))))))))
rows_start kind.C32 = (refl, (refl, (refl, (refl, (refl, (refl, (refl, (refl, (refl, (refl, (refl, (refl, (refl, (refl, (refl, (refl, (refl, (refl, (refl, (refl, (refl, (refl, (refl, ((refl, tt)))))))))))))))))))))))))
rows_start kind.C64 = (refl, (refl, (refl, (refl, (refl, (refl, (refl, (refl, (refl, (refl, (refl, (refl, (refl, (refl, (refl, (refl, (refl, (refl, (refl, (refl, (refl, (refl, (refl, ((refl, tt)))))))))))))))))))))))))
rows_start kind.R32 = (refl, (refl, (refl, (refl, (refl, (refl, (refl, (refl, (refl, (refl, (refl, (refl, (refl, (refl, (refl, (refl, (refl, (refl, (refl, (refl, (refl, (refl, (refl, ((refl, tt)))))))))))))))))))))))))

along : (kind : ClockKind) (f : ℕ → ℕ) (bytes : List ℕ) (rows : List Register) → ((a : ℕ) → slice_index bytes a ≡ f a) → AllByRecursion (λ r. number_by f r.bytes r.addr ≡ r.start kind) rows → AllByRecursion (λ r. number_at r.bytes r.addr bytes ≡ r.start kind) rows
along kind f bytes [] same each = each
along kind f bytes (r ∷ rows) same each = (number_by-is f r.bytes r.addr bytes same ∙ each.0, along kind f bytes rows same each.1)

pub starts : (kind : ClockKind) (bytes : List ℕ) → ((a : ℕ) → slice_index bytes a ≡ start_byte kind a) → StartsBy kind bytes
starts kind bytes same = along kind (start_byte kind) bytes registers same (rows_start kind)

-- what these registers put over f
abbrev put_rows : ClockKind → List Register → (ℕ → ℕ) → ℕ → ℕ
put_rows kind [] f = f
put_rows kind (r ∷ rows) f = put_rows kind rows (put r.bytes r.addr (r.start kind) f)

bytes_by_rows : (kind : ClockKind) (rows : List Register) (bytes : List ℕ) (f : ℕ → ℕ) → AllByRecursion (λ r. r.addr + r.bytes ≤ 4096) rows → length bytes ≡ 4096
    → ((a : ℕ) → slice_index bytes a ≡ f a)
    → (length (with_starts kind rows bytes) ≡ 4096) × ((a : ℕ) → slice_index (with_starts kind rows bytes) a ≡ put_rows kind rows f a)
bytes_by_rows kind [] bytes f fit size same = (size, same)
bytes_by_rows kind (r ∷ rows) bytes f fit size same =
    let here = fit.0 in
    let room : r.addr + r.bytes ≤ length bytes = omega (arith, here, size) in
    bytes_by_rows kind rows (with_number r.bytes r.addr (r.start kind) bytes) (put r.bytes r.addr (r.start kind) f) fit.1
    (same_length r.bytes r.addr (r.start kind) bytes room ∙ size)
    (put_is r.bytes r.addr (r.start kind) bytes (with_number r.bytes r.addr (r.start kind) bytes) f refl room same)

-- whether the n bytes of a number from byte i on are those that a function gives at a place
same_from : (ℕ → ℕ) → ℕ → ℕ → ℕ → ℕ → Bool
same_from f at x i zero = true
same_from f at x i (suc n) = (byte_at i x == f (at + i)) && same_from f at x (suc i) n

same_tells : (f : ℕ → ℕ) (at x i n k : ℕ) → same_from f at x i n ≡ true → i ≤ k → k < i + n → byte_at k x ≡ f (at + k)
unfolding same_from
same_tells f at x i zero k same low high = absurd (omega arith)
same_tells f at x i (suc n) k same low high =
    let t = both (byte_at i x == f (at + i)) (same_from f at x (suc i) n) same in
    elim (cases_lt i k) [
      | inl later ↦ same_tells f at x (suc i) n k t.1 (omega arith) (omega arith)
      | inr here ↦
          let e : i ≡ k = omega arith in
          subst (λ j. byte_at j x ≡ f (at + j)) e (eqb-true (byte_at i x) (f (at + i)) t.0)
    ]

abbrev start_test : ClockKind → Register → Bool
start_test kind r = same_from (start_byte kind) r.addr (r.start kind) 0 r.bytes

rows_same : (kind : ClockKind) → list_all (start_test kind) registers ≡ true
unfolding same_from
rows_same kind.None = refl
rows_same kind.C32 = refl
rows_same kind.C64 = refl
rows_same kind.R32 = refl

abbrev covers_byte : ℕ → Register → Bool
covers_byte a r = is_within a r.addr r.bytes

settled : (kind : ClockKind) (a : ℕ) (rows : List Register) (f : ℕ → ℕ) → list_all (start_test kind) rows ≡ true
    → (f a ≡ start_byte kind a) ⊎ (list_any (covers_byte a) rows ≡ true) → put_rows kind rows f a ≡ start_byte kind a
settled kind a [] f same (inl is) = is
settled kind a [] f same (inr some) = cc
settled kind a (r ∷ rows) f same some =
    let t = both (start_test kind r) (list_all (start_test kind) rows) same in
    elim (cases_lt a r.addr) [
      | inl before ↦ settled kind a rows (put r.bytes r.addr (r.start kind) f) t.1 (past_row (before_test a r.addr r.bytes before) some)
      | inr from ↦ elim (cases_lt a (r.addr + r.bytes)) [
        | inr past ↦ settled kind a rows (put r.bytes r.addr (r.start kind) f) t.1 (past_row (past_test a r.addr r.bytes past) some)
        | inl inside ↦
            let e : r.addr + (a - r.addr) ≡ a = omega arith in
            let byte : byte_at (a - r.addr) (r.start kind) ≡ start_byte kind a =
            same_tells (start_byte kind) r.addr (r.start kind) 0 r.bytes (a - r.addr) t.0 (omega arith) (omega arith) ∙ ap (start_byte kind) e in
            settled kind a rows (put r.bytes r.addr (r.start kind) f) t.1 (inl (rw (within_test a r.addr r.bytes from inside) byte))
      ]
    ]
  where
    past_row : is_within a r.addr r.bytes ≡ false → (f a ≡ start_byte kind a) ⊎ (list_any (covers_byte a) (r ∷ rows) ≡ true)
        → (put r.bytes r.addr (r.start kind) f a ≡ start_byte kind a) ⊎ (list_any (covers_byte a) rows ≡ true)
    past_row off (inl is) = inl (rw off is)
    past_row off (inr some) = inr (rw off at some)

-- a byte of no register is 0
off : (kind : ClockKind) (n at x : ℕ) (f : ℕ → ℕ) (a : ℕ) → n < 8 → is_register at n ≡ true → is_defined kind a ≡ false → put n at x f a ≡ f a
off kind n at x f a few register undefined = elim (cases_lt a at) [
  | inl before ↦ rw (before_test a at n before) refl
  | inr from ↦
      let past = past_held kind at n a register undefined from in
      let all : held kind n ≡ n = elim (held_all kind n) [ inl all ↦ all | inr half ↦ absurd (let eight = half.0 in omega (arith, eight)) ] in
      rw (past_test a at n (omega (arith, past, all))) refl
]

none_at_start : (kind own : ClockKind) (a : ℕ) → is_defined own a ≡ false → start_byte kind a ≡ 0
none_at_start kind own a undefined =
    let f1 : ℕ → ℕ = put 1 0x0000 0x11 (λ a. 0) in
    let f2 : ℕ → ℕ = put 2 0x0008 (features kind) f1 in
    let f3 : ℕ → ℕ = put 2 0x0930 0x1000 f2 in
    let f4 : ℕ → ℕ = put 1 0x0934 4 f3 in
    off own 1 0x0935 12 f4 a (omega arith) refl undefined ∙ off own 1 0x0934 4 f3 a (omega arith) refl undefined
    ∙ off own 2 0x0930 0x1000 f2 a (omega arith) refl undefined ∙ off own 2 0x0008 (features kind) f1 a (omega arith) refl undefined
    ∙ off own 1 0x0000 0x11 (λ a. 0) a (omega arith) refl undefined

all_defined : (a : ℕ) → is_defined kind.C64 a ≡ list_any (covers_byte a) registers
unfolding is_defined
all_defined a = refl

start_bytes : (kind : ClockKind) → (length (bytes_at_start kind) ≡ 4096) × ((a : ℕ) → slice_index (bytes_at_start kind) a ≡ start_byte kind a)
unfolding bytes_at_start
start_bytes own =
    let none : ℕ → ℕ = λ a. 0 in
    let z : ℕ = 0 in
    let by = bytes_by_rows own registers (replicate 4096 z) none (search rules) (length-replicate 4096 z) (zero_of 4096) in (
      by.0,
      λ a. by.1 a ∙ settled own a registers none (rows_same own)
          (elim (decide (is_defined kind.C64 a)) [
            | inl defined ↦ inr (sym (all_defined a) ∙ defined)
            | inr undefined ↦ inl (sym (none_at_start own kind.C64 a undefined))
          ]),
    )

-- what the new registers are
pub started_is : (kind : ClockKind) (r : Registers) → r.kind ≡ kind → length r.bytes ≡ 4096 → ((a : ℕ) → slice_index r.bytes a ≡ start_byte kind a) → r ≡ registers_at_start kind
started_is kind r of_kind size same =
    let all = start_bytes kind in
    let bytes : r.bytes ≡ bytes_at_start kind = same_number_lists r.bytes (bytes_at_start kind) (size ∙ sym all.0) (λ k _. same k ∙ sym (all.1 k)) in
    ap₂ (λ k bs. record { kind = k; bytes = bs }) of_kind bytes

pub start_numbers : (kind : ClockKind) → StartsBy kind (registers_at_start kind).bytes
start_numbers kind = starts kind (bytes_at_start kind) (start_bytes kind).1

rows_bytes : (kind : ClockKind) (rows : List Register) (bytes : List ℕ) → AreBytes bytes → AreBytes (with_starts kind rows bytes)
rows_bytes kind [] bytes are = are
rows_bytes kind (r ∷ rows) bytes are =
    rows_bytes kind rows (with_number r.bytes r.addr (r.start kind) bytes) (bytes_after_set r.bytes r.addr (r.start kind) bytes are)

start_are_bytes : (kind : ClockKind) → AreBytes (bytes_at_start kind)
unfolding bytes_at_start
start_are_bytes kind = rows_bytes kind registers (replicate 4096 0) (All-replicate (λ b. b < 256) 4096 0 (omega arith))

pub start_whole : (kind : ClockKind) → IsWhole (registers_at_start kind)
start_whole kind =
    let all = start_bytes kind in
    record {
      size = all.0;
      zeros = record { zero_at = λ a undefined. all.1 a ∙ none_at_start kind kind a undefined };
      are_bytes = start_are_bytes kind;
    }
