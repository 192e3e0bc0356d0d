-- Which bytes a write never stores.
use Rattle.std.proofs.Common.{◌≡◌, ℕ, ◌+◌, ◌<◌, ◌≤◌, ◌&&◌, ◌||◌, Bool, true, false, List, [], ◌∷◌, nat_le, refl, arith, inl, inr}
use Rattle.std.specs.Prelude.{not}
use Rattle.std.specs.List.{list_any, list_all}
use Rattle.std.proofs.lemmas.Bool.Decides.{nat_tests}
use Rattle.esc_regs.specs.declared.clock_kind.ClockKind.{ClockKind}
use Rattle.esc_regs.specs.RegisterTable.{Register, registers, held, is_within}
use Rattle.esc_regs.specs.RegisterAccess.{stores, is_writable}
use Rattle.esc_regs.proofs.Exported.{both, held_all, before_test, past_test}

-- a register none of whose bytes from low to high - 1 a write stores
abbrev pub is_shut : Bool → ℕ → ℕ → Register → Bool
is_shut in_range low high r = not (stores in_range r.writes) || (nat_le high r.addr || nat_le (r.addr + r.bytes) low)

held_most : (kind : ClockKind) (n : ℕ) → held kind n ≤ n
held_most kind n = elim (held_all kind n) [ inl h ↦ omega (arith, h) | inr h ↦ omega (arith, h.0, h.2) ]

shut_row : (kind : ClockKind) (b : Bool) (low high a : ℕ) (r : Register) → low ≤ a → a < high → is_shut b low high r ≡ true
    → (stores b r.writes && is_within a r.addr (held kind r.bytes)) ≡ false
shut_row kind b low high a r from to h = by (stores b r.writes) refl
  where
    outside : (c d : Bool) → nat_le high r.addr ≡ c → nat_le (r.addr + r.bytes) low ≡ d → (c || d) ≡ true → is_within a r.addr (held kind r.bytes) ≡ false
    outside true d e f k = before_test a r.addr (held kind r.bytes) (let le : high ≤ r.addr = grind (arith, nat_tests, e) in omega (arith, le, to))
    outside false true e f k =
        past_test a r.addr (held kind r.bytes) (let le : r.addr + r.bytes ≤ low = grind (arith, nat_tests, f) in let few = held_most kind r.bytes in omega (arith, le, from, few))
    outside false false e f k = absurd (let z = k in cc)

    by : (c : Bool) → stores b r.writes ≡ c → (stores b r.writes && is_within a r.addr (held kind r.bytes)) ≡ false
    by true e =
        let k : (nat_le high r.addr || nat_le (r.addr + r.bytes) low) ≡ true = (rw e at h) in
        rw e (outside (nat_le high r.addr) (nat_le (r.addr + r.bytes) low) refl refl k)
    by false e = rw e refl

shut_rows : (kind : ClockKind) (b : Bool) (low high a : ℕ) (rows : List Register) → low ≤ a → a < high → list_all (is_shut b low high) rows ≡ true
    → list_any (λ r. stores b r.writes && is_within a r.addr (held kind r.bytes)) rows ≡ false
shut_rows kind b low high a [] from to h = refl
shut_rows kind b low high a (r ∷ rows) from to h =
    let t = both (is_shut b low high r) (list_all (is_shut b low high) rows) h in
    rw (shut_row kind b low high a r from to t.0) (shut_rows kind b low high a rows from to t.1)

-- no write stores a byte of such a range
pub shut : (kind : ClockKind) (b : Bool) (low high a : ℕ) → list_all (is_shut b low high) registers ≡ true → low ≤ a → a < high → is_writable kind b a ≡ false
unfolding is_writable
shut kind b low high a all from to = shut_rows kind b low high a registers from to all

ports_shut : (b : Bool) → list_all (is_shut b 0x0900 0x0910) registers ≡ true
ports_shut true = refl
ports_shut false = refl

unit_shut : (b : Bool) → list_all (is_shut b 0x0918 0x0920) registers ≡ true
unit_shut true = refl
unit_shut false = refl

pub ports_unwritable : (kind : ClockKind) (b : Bool) (a : ℕ) → 0x0900 ≤ a → a < 0x0910 → is_writable kind b a ≡ false
ports_unwritable kind b a from to = shut kind b 0x0900 0x0910 a (ports_shut b) from to

pub unit_unwritable : (kind : ClockKind) (b : Bool) (a : ℕ) → 0x0918 ≤ a → a < 0x0920 → is_writable kind b a ≡ false
unit_unwritable kind b a from to = shut kind b 0x0918 0x0920 a (unit_shut b) from to
