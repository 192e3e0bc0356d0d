-- The receive times and the system time are the slave's own: no write stores them.
use Rattle.std.proofs.Common.{◌≡◌, ℕ, ◌+◌, ◌<◌, ◌≤◌, ◌&&◌, ◌||◌, ◌⊎◌, Bool, true, false, List, [], ◌∷◌, length, slice_index, refl, arith, inl, inr}
use Rattle.std.specs.Prelude.{nat_le, not}
use Rattle.std.specs.Option.{is_some}
use Rattle.std.specs.List.{list_any, list_all}
use Rattle.std.proofs.lemmas.Bool.{cases_lt}
use Rattle.std.proofs.lemmas.Bool.Decides.{nat_tests}
use Rattle.esc_regs.specs.declared.clock_kind.ClockKind.{ClockKind}
use Rattle.esc_regs.specs.declared.table.Writing.{Writing}
use Rattle.esc_regs.specs.declared.table.Writing.TheVariants.{Ignored, Stored, StoredInRange}
use Rattle.esc_regs.specs.RegisterTable.{Register, registers, held, is_within}
use Rattle.esc_regs.specs.RegisterAccess.{byte_after, stores, is_writable, is_refused, rate_by}
use Rattle.esc_regs.specs.RegisterFile.{Registers}
use Rattle.esc_regs.specs.RegisterWrite.{stored_bytes, written}
use Rattle.esc_regs.proofs.Storing.{is_stored, write_is}
use Rattle.esc_regs.proofs.TableFacts.{both, before_test, past_test, lacks_second, held_all}

either : (b c : Bool) → (b || c) ≡ true → (b ≡ true) ⊎ (c ≡ true)
either true c h = inl refl
either false c h = inr h

held_most : (kind : ClockKind) (n : ℕ) → held kind n ≤ n
held_most kind n = elim (held_all kind n) [ inl h ↦ omega (arith, h) | inr h ↦ omega (arith, h.0, h.2) ]

-- a row that is stored in stands before 0x0900, or from 0x0920 on
abbrev is_clear : Register → Bool
is_clear r = not (stores true r.writes) || (nat_le (r.addr + r.bytes) 0x0900 || nat_le 0x0920 r.addr)

all_clear : list_all is_clear registers ≡ true
all_clear = refl

never : (in_range : Bool) (w : Writing) → not (stores true w) ≡ true → stores in_range w ≡ false
never in_range Ignored h = refl
never in_range Stored h = absurd cc
never in_range StoredInRange h = absurd cc

low_test : (m n : ℕ) → nat_le m n ≡ true → m ≤ n
low_test m n h = grind (arith, nat_tests, h)

row_clear : (kind : ClockKind) (in_range : Bool) (a : ℕ) (r : Register) → 0x0900 ≤ a → a < 0x0920 → is_clear r ≡ true
    → (stores in_range r.writes && is_within a r.addr (held kind r.bytes)) ≡ false
row_clear kind in_range a r low high h =
    elim (either (not (stores true r.writes)) (nat_le (r.addr + r.bytes) 0x0900 || nat_le 0x0920 r.addr) h) [
      | inl off ↦ let e = never in_range r.writes off in rw e refl
      | inr place ↦ lacks_second (stores in_range r.writes) (is_within a r.addr (held kind r.bytes))
          (elim (either (nat_le (r.addr + r.bytes) 0x0900) (nat_le 0x0920 r.addr) place) [
            | inl before ↦ let le = low_test (r.addr + r.bytes) 0x0900 before in let few = held_most kind r.bytes in past_test a r.addr (held kind r.bytes) (omega (arith, le, few, low))
            | inr behind ↦ let le = low_test 0x0920 r.addr behind in before_test a r.addr (held kind r.bytes) (omega (arith, le, high))
          ])
    ]

rows_clear : (kind : ClockKind) (in_range : Bool) (a : ℕ) (rows : List Register) → 0x0900 ≤ a → a < 0x0920 → list_all is_clear rows ≡ true
    → list_any (λ r. stores in_range r.writes && is_within a r.addr (held kind r.bytes)) rows ≡ false
rows_clear kind in_range a [] low high h = refl
rows_clear kind in_range a (r ∷ rows) low high h =
    let t = both (is_clear r) (list_all is_clear rows) h in
    rw (row_clear kind in_range a r low high t.0) (rows_clear kind in_range a rows low high t.1)

own : (kind : ClockKind) (in_range : Bool) (a : ℕ) → 0x0900 ≤ a → a < 0x0920 → is_writable kind in_range a ≡ false
unfolding is_writable
own kind in_range a low high = rows_clear kind in_range a registers low high all_clear

byte_stays : (kind : ClockKind) (in_range : Bool) (addr : ℕ) (bytes before : List ℕ) (a : ℕ) → 0x0900 ≤ addr → addr + length bytes ≤ 0x0920
    → slice_index before a ≡ byte_after kind in_range addr bytes before a
byte_stays kind in_range addr bytes before a low high =
    elim (cases_lt a addr) [
      | inl h ↦ let e = before_test a addr (length bytes) h in rw e refl
      | inr h ↦ elim (cases_lt a (addr + length bytes)) [
        | inl g ↦ let e = own kind in_range a (omega (arith, low, h)) (omega (arith, high, g)) in
            let f = lacks_second (is_within a addr (length bytes)) (is_writable kind in_range a) e in rw f refl
        | inr g ↦ let e = past_test a addr (length bytes) g in rw e refl
      ]
    ]

pub own_times : (kind : ClockKind) (in_range : Bool) (addr : ℕ) (bytes before : List ℕ) → 0x0900 ≤ addr → addr + length bytes ≤ 0x0920
    → before ≡ stored_bytes kind in_range addr bytes before
own_times kind in_range addr bytes before low high =
    is_stored kind in_range addr bytes before before (record { size = refl; each = λ a. byte_stays kind in_range addr bytes before a low high })

-- the test of such a write
pub from_test : (addr n : ℕ) → (nat_le 0x0910 addr && nat_le (addr + n) 0x0920) ≡ true → 0x0910 ≤ addr
from_test addr n h = low_test 0x0910 addr (both (nat_le 0x0910 addr) (nat_le (addr + n) 0x0920) h).0

pub to_test : (addr n : ℕ) → (nat_le 0x0910 addr && nat_le (addr + n) 0x0920) ≡ true → addr + n ≤ 0x0920
to_test addr n h = low_test (addr + n) 0x0920 (both (nat_le 0x0910 addr) (nat_le (addr + n) 0x0920) h).1

-- it leaves the registers
pub own_written : (r : Registers) (addr at : ℕ) (bytes : List ℕ) → at ≡ addr → is_refused r.kind at (length bytes) ≡ false → 0x0910 ≤ at → at + length bytes ≤ 0x0920
    → r ≡ written r addr bytes
own_written r addr at bytes a done low high =
    write_is r r.kind addr at bytes r.bytes r.bytes (is_some (rate_by at bytes)) refl refl a done refl
    (own_times r.kind (is_some (rate_by at bytes)) at bytes r.bytes (omega (arith, low)) high)
