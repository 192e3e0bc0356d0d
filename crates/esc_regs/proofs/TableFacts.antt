-- What a row of the table says of the bytes at its address.
use Rattle.std.proofs.Common.{◌≡◌, ℕ, ◌+◌, ◌<◌, ◌≤◌, ◌&&◌, ◌||◌, ◌==◌, ◌⊎◌, Bool, true, false, List, [], ◌∷◌, refl, rules, arith, sym, ap, ◌∙◌, inl, inr}
use Rattle.std.specs.Prelude.{if◌then◌else◌, not}
use Rattle.std.specs.List.{list_any, list_all, AllByRecursion}
use Rattle.std.proofs.lemmas.Bool.{eqb-true, cases_lt}
use Rattle.std.proofs.lemmas.Bool.Decides.{eqb_tells}
use Rattle.std.proofs.lemmas.Bool.Decides.{nat_tests}
use Rattle.esc_regs.specs.declared.clock_kind.ClockKind.{ClockKind}
use Rattle.esc_regs.specs.declared.clock_kind.ClockKind.TheVariants as kind
use Rattle.esc_regs.specs.RegisterTable.{Register, registers, is_register, is_wide, held, is_within, is_defined}
use Rattle.esc_regs.specs.RegisterAccess.{stores, is_writable}

either : (b c : Bool) → (b || c) ≡ true → (b ≡ true) ⊎ (c ≡ true)
either true c h = inl refl
either false c h = inr h

by_first : (b c : Bool) → b ≡ true → (b || c) ≡ true
by_first true c h = refl
by_first false c h = cc

by_second : (b c : Bool) → c ≡ true → (b || c) ≡ true
by_second true c h = refl
by_second false c h = h

pub neither : (b c : Bool) → (b || c) ≡ false → (b ≡ false) × (c ≡ false)
neither true c h = cc
neither false c h = (refl, h)

pub both : (b c : Bool) → (b && c) ≡ true → (b ≡ true) × (c ≡ true)
both true c h = (refl, h)
both false c h = cc

pub lacks_second : (b c : Bool) → c ≡ false → (b && c) ≡ false
lacks_second true c h = h
lacks_second false c h = refl

-- a row at this address has its address and bytes
row_is : (addr n : ℕ) (r : Register) → ((r.addr == addr) && (r.bytes == n)) ≡ true → (r.addr ≡ addr) × (r.bytes ≡ n)
row_is addr n r h =
    let t = both (r.addr == addr) (r.bytes == n) h in
    (eqb-true r.addr addr t.0, eqb-true r.bytes n t.1)

within_rows : (addr n : ℕ) (rows : List Register) → AllByRecursion (λ r. r.addr + r.bytes ≤ 4096) rows → list_any (λ r. (r.addr == addr) && (r.bytes == n)) rows ≡ true → addr + n ≤ 4096
within_rows addr n [] fit h = cc
within_rows addr n (r ∷ rows) fit h =
    elim (either ((r.addr == addr) && (r.bytes == n)) (list_any (λ r. (r.addr == addr) && (r.bytes == n)) rows) h) [
      | inl here ↦ let is = row_is addr n r here in let fits = fit.0 in omega (arith, is.0, is.1, fits)
      | inr there ↦ within_rows addr n rows fit.1 there
    ]

-- each register stands within the 4096 bytes
pub register_within : (addr n : ℕ) → is_register addr n ≡ true → addr + n ≤ 4096
register_within addr n h = within_rows addr n registers (search rules) h

pub within_test : (a addr n : ℕ) → addr ≤ a → a < addr + n → is_within a addr n ≡ true
within_test a addr n low high = grind (arith, nat_tests)

pub before_test : (a addr n : ℕ) → a < addr → is_within a addr n ≡ false
before_test a addr n h = grind (arith, nat_tests)

pub past_test : (a addr n : ℕ) → addr + n ≤ a → is_within a addr n ≡ false
past_test a addr n h = grind (arith, nat_tests)

defined_rows : (kind : ClockKind) (addr n a : ℕ) (rows : List Register) → addr ≤ a → a < addr + held kind n → list_any (λ r. (r.addr == addr) && (r.bytes == n)) rows ≡ true → list_any (λ r. is_within a r.addr (held kind r.bytes)) rows ≡ true
defined_rows kind addr n a [] low high h = cc
defined_rows kind addr n a (r ∷ rows) low high h =
    elim (either ((r.addr == addr) && (r.bytes == n)) (list_any (λ r. (r.addr == addr) && (r.bytes == n)) rows) h) [
      | inl here ↦
          let is = row_is addr n r here in
          let width : held kind r.bytes ≡ held kind n = ap (held kind) is.1 in
          let inside : is_within a r.addr (held kind r.bytes) ≡ true = within_test a r.addr (held kind r.bytes) (omega (arith, is.0)) (omega (arith, is.0, width)) in
          by_first (is_within a r.addr (held kind r.bytes)) (list_any (λ r. is_within a r.addr (held kind r.bytes)) rows) inside
      | inr there ↦
          by_second (is_within a r.addr (held kind r.bytes)) (list_any (λ r. is_within a r.addr (held kind r.bytes)) rows) (defined_rows kind addr n a rows low high there)
    ]

-- the bytes that a register has on a slave belong to it
pub register_defined : (kind : ClockKind) (addr n a : ℕ) → is_register addr n ≡ true → addr ≤ a → a < addr + held kind n → is_defined kind a ≡ true
unfolding is_defined
register_defined kind addr n a h low high = defined_rows kind addr n a registers low high h

writable_rows : (kind : ClockKind) (in_range : Bool) (a : ℕ) (rows : List Register) → list_any (λ r. is_within a r.addr (held kind r.bytes)) rows ≡ false → list_any (λ r. stores in_range r.writes && is_within a r.addr (held kind r.bytes)) rows ≡ false
writable_rows kind in_range a [] h = refl
writable_rows kind in_range a (r ∷ rows) h =
    let inside = is_within a r.addr (held kind r.bytes) in
    let t = neither inside (list_any (λ r. is_within a r.addr (held kind r.bytes)) rows) h in
    rw (lacks_second (stores in_range r.writes) inside t.0) (writable_rows kind in_range a rows t.1)

-- a byte of no register is not writable
pub undefined_ignored : (kind : ClockKind) (in_range : Bool) (a : ℕ) → is_defined kind a ≡ false → is_writable kind in_range a ≡ false
unfolding is_defined is_writable
undefined_ignored kind in_range a h = writable_rows kind in_range a registers h

narrow_bytes : (n : ℕ) → ((if n == 8 then 4 else n) ≡ n) ⊎ ((n ≡ 8) × ((if n == 8 then 4 else n) ≡ 4))
narrow_bytes n = elim (eqb_tells n 8) [ inl h ↦ inr (h.1, rw h.0 refl) | inr h ↦ inl (rw h.0 refl) ]

-- a register has all its bytes, but one of 8 on a slave whose clock does not have 64 bits
pub held_all : (kind : ClockKind) (n : ℕ) → (held kind n ≡ n) ⊎ ((n ≡ 8) × (is_wide kind ≡ false) × (held kind n ≡ 4))
held_all kind.C64 n = inl refl
held_all kind.None n = elim (narrow_bytes n) [ inl h ↦ inl h | inr h ↦ inr (h.0, refl, h.1) ]
held_all kind.C32 n = elim (narrow_bytes n) [ inl h ↦ inl h | inr h ↦ inr (h.0, refl, h.1) ]
held_all kind.R32 n = elim (narrow_bytes n) [ inl h ↦ inl h | inr h ↦ inr (h.0, refl, h.1) ]

-- the upper half of a register of 8 bytes belongs to no other register
upper_free : ClockKind → ℕ → Bool
upper_free kind a = not (is_defined kind (a + 4)) && (not (is_defined kind (a + 5)) && (not (is_defined kind (a + 6)) && not (is_defined kind (a + 7))))

abbrev upper_test : ClockKind → Register → Bool
upper_test kind r = not (r.bytes == 8) || upper_free kind r.addr

narrow_table : (kind : ClockKind) → is_wide kind ≡ false → list_all (upper_test kind) registers ≡ true
unfolding is_defined upper_free
narrow_table kind.None h = refl
narrow_table kind.C32 h = refl
narrow_table kind.C64 h = cc
narrow_table kind.R32 h = refl

upper_rows : (kind : ClockKind) (addr : ℕ) (rows : List Register) → list_all (upper_test kind) rows ≡ true → list_any (λ r. (r.addr == addr) && (r.bytes == 8)) rows ≡ true → upper_free kind addr ≡ true
upper_rows kind addr [] all h = cc
upper_rows kind addr (r ∷ rows) all h =
    let t = both (upper_test kind r) (list_all (upper_test kind) rows) all in
    elim (either ((r.addr == addr) && (r.bytes == 8)) (list_any (λ r. (r.addr == addr) && (r.bytes == 8)) rows) h) [
      | inl here ↦
          let is = row_is addr 8 r here in
          let eight = both (r.addr == addr) (r.bytes == 8) here in
          ap (upper_free kind) (sym is.0) ∙ second (r.bytes == 8) (upper_free kind r.addr) eight.1 t.0
      | inr there ↦ upper_rows kind addr rows t.1 there
    ]
  where
    second : (b c : Bool) → b ≡ true → (not b || c) ≡ true → c ≡ true
    second true c p h = h
    second false c p h = cc

is_not : (b : Bool) → not b ≡ true → b ≡ false
is_not true h = cc
is_not false h = refl

pub upper_undefined : (kind : ClockKind) (addr : ℕ) → is_wide kind ≡ false → is_register addr 8 ≡ true → (k : ℕ) → 4 ≤ k → k < 8 → is_defined kind (addr + k) ≡ false
unfolding upper_free
upper_undefined kind addr narrow register k low high =
    let t = both (not (is_defined kind (addr + 4))) _ (upper_rows kind addr registers (narrow_table kind narrow) register) in
    let u = both (not (is_defined kind (addr + 5))) _ t.1 in
    let v = both (not (is_defined kind (addr + 6))) _ u.1 in
    elim (cases_lt k 5) [
      | inl h ↦ let e : k ≡ 4 = omega arith in ap (λ j. is_defined kind (addr + j)) e ∙ is_not (is_defined kind (addr + 4)) t.0
      | inr h5 ↦ elim (cases_lt k 6) [
        | inl h ↦ let e : k ≡ 5 = omega arith in ap (λ j. is_defined kind (addr + j)) e ∙ is_not (is_defined kind (addr + 5)) u.0
        | inr h6 ↦ elim (cases_lt k 7) [
          | inl h ↦ let e : k ≡ 6 = omega arith in ap (λ j. is_defined kind (addr + j)) e ∙ is_not (is_defined kind (addr + 6)) v.0
          | inr h7 ↦ let e : k ≡ 7 = omega arith in ap (λ j. is_defined kind (addr + j)) e ∙ is_not (is_defined kind (addr + 7)) v.1
        ]
      ]
    ]

pub held_few : (kind : ClockKind) → held kind 8 ≤ 8
held_few kind = elim (held_all kind 8) [ inl h ↦ omega (arith, h) | inr h ↦ omega (arith, h.2) ]
