-- A write as a function: the bytes that it leaves are determined.
use Rattle.std.proofs.Common.{◌≡◌, ℕ, ◌+◌, ◌-◌, ◌/◌, ◌<◌, ◌≤◌, ◌&&◌, ◌⊎◌, Bool, true, false, List, length, slice_index, map, refl, sym, ap, ◌∙◌, arith, inl, inr}
use Rattle.std.specs.Prelude.{if◌then◌else◌, nat_lt, ◌==◌, ◌||◌, Option, Some, None, IfSome}
use Rattle.std.specs.List.{range_with_len}
use Rattle.std.specs.Option.{is_some}
use Rattle.std.proofs.lemmas.Bool.{cases_lt}
use Rattle.std.proofs.lemmas.Bool.Decides.{nat_tests}
use Rattle.std.proofs.lemmas.List.{get_or_past}
use Rattle.std.proofs.lemmas.List.FromFn.{length-map-range_with_len, get_or-map-range_with_len, fill_by_all}
use Rattle.esc_regs.specs.declared.answers.Access.TheVariants.{Done}
use Rattle.esc_regs.specs.declared.answers.Written.{Written}
use Rattle.esc_regs.specs.declared.clock_kind.ClockKind.{ClockKind}
use Rattle.esc_regs.specs.RegisterBytes.{number_at, AreApart}
use Rattle.esc_regs.specs.RegisterTable.{is_within}
use Rattle.esc_regs.specs.RegisterAccess.{Stores, byte_after, is_writable, is_refused, lacks, covers, is_speed, latches, received_by, rate_by, activation_by}
use Rattle.esc_regs.specs.RegisterFile.{Registers}
use Rattle.esc_regs.specs.RegisterWrite.{stored_bytes, written, told}
use Rattle.esc_regs.proofs.Numbers.{same_numbers}
use Rattle.esc_regs.proofs.TableFacts.{before_test, past_test, within_test, neither}

pub is_stored : (kind : ClockKind) (in_range : Bool) (addr : ℕ) (bytes before after : List ℕ) → Stores kind in_range addr bytes before after → after ≡ stored_bytes kind in_range addr bytes before
unfolding stored_bytes
is_stored kind in_range addr bytes before after s =
    fill_by_all (byte_after kind in_range addr bytes before) after (length before) 0 s.size (λ k inside. s.each k)

-- the byte past the end of both
byte_past : (kind : ClockKind) (in_range : Bool) (addr : ℕ) (bytes before : List ℕ) (a : ℕ) → addr + length bytes ≤ a → byte_after kind in_range addr bytes before a ≡ slice_index before a
byte_past kind in_range addr bytes before a h = rw (past_test a addr (length bytes) h) refl

pub stores : (kind : ClockKind) (in_range : Bool) (addr : ℕ) (bytes before : List ℕ) → addr + length bytes ≤ length before → Stores kind in_range addr bytes before (stored_bytes kind in_range addr bytes before)
unfolding stored_bytes
stores kind in_range addr bytes before room =
    let f : ℕ → ℕ = byte_after kind in_range addr bytes before in
    let z : ℕ = 0 in
    let size : length (map f (range_with_len 0 (length before))) ≡ length before = length-map-range_with_len f 0 (length before) in
    record {
      size = size;
      each = λ a. elim (cases_lt a (length before)) [
        | inl h ↦ get_or-map-range_with_len f 0 (length before) a a z h (omega arith)
        | inr h ↦
            get_or_past (map f (range_with_len 0 (length before))) a z (omega (arith, size))
            ∙ sym (get_or_past before a z h) ∙ sym (byte_past kind in_range addr bytes before a (omega arith))
      ];
    }

-- an access that is not refused stays within the registers
pub not_past : (kind : ClockKind) (addr n : ℕ) → is_refused kind addr n ≡ false → addr + n ≤ 4096
not_past kind addr n h =
    let t = neither (n == 0 || nat_lt 0x1000 (addr + n)) (lacks kind addr n) h in
    let u = neither (n == 0) (nat_lt 0x1000 (addr + n)) t.0 in
    grind (arith, nat_tests, u.1)

pub written_stores : (r : Registers) (addr : ℕ) (bytes : List ℕ) → length r.bytes ≡ 4096 → is_refused r.kind addr (length bytes) ≡ false
    → Stores r.kind (is_some (rate_by addr bytes)) addr bytes r.bytes (written r addr bytes).bytes
written_stores r addr bytes size done =
    rw done (stores r.kind (is_some (rate_by addr bytes)) addr bytes r.bytes (omega (arith, size, not_past r.kind addr (length bytes) done)))

pub written_kind : (r : Registers) (addr : ℕ) (bytes : List ℕ) → (written r addr bytes).kind ≡ r.kind
written_kind r addr bytes = of (is_refused r.kind addr (length bytes))
  where
    of : (b : Bool) → (if b then r else record r { bytes = stored_bytes r.kind (is_some (rate_by addr bytes)) addr bytes r.bytes }).kind ≡ r.kind
    of true = refl
    of false = refl

-- a rate is of a speed from 128 to 16,383
rate_of : (b c : Bool) (x : ℕ) → (c ≡ true → (128 ≤ x) × (x ≤ 16383)) → IfSome (if b && c then Some (x / 64) else None) (λ g. (2 ≤ g) × (g ≤ 255))
rate_of true true x h = let le = h refl in (omega (arith, le.0), omega (arith, le.1))
rate_of true false x h = tt
rate_of false c x h = tt

speed_bounds : (x : ℕ) → is_speed x ≡ true → (128 ≤ x) × (x ≤ 16383)
speed_bounds x e = (grind (arith, nat_tests, e), grind (arith, nat_tests, e))

pub rate_bounds : (addr : ℕ) (bytes : List ℕ) → IfSome (rate_by addr bytes) (λ g. (2 ≤ g) × (g ≤ 255))
rate_bounds addr bytes = rate_of (covers 0x0930 2 addr (length bytes)) (is_speed (number_at 2 (0x0930 - addr) bytes)) (number_at 2 (0x0930 - addr) bytes) (speed_bounds _)

pub decide : (b : Bool) → (b ≡ true) ⊎ (b ≡ false)
decide true = inl refl
decide false = inr refl

-- a number whose bytes a write leaves
kept_number : (r : Registers) (addr : ℕ) (bytes : List ℕ) (at n : ℕ) → length r.bytes ≡ 4096
    → ((k : ℕ) → k < n → byte_after r.kind (is_some (rate_by addr bytes)) addr bytes r.bytes (at + k) ≡ slice_index r.bytes (at + k))
    → number_at n at (written r addr bytes).bytes ≡ number_at n at r.bytes
kept_number r addr bytes at n size kept =
    elim (decide (is_refused r.kind addr (length bytes))) [
      | inl refused ↦ rw refused refl
      | inr done ↦
          let s = written_stores r addr bytes size done in
          same_numbers n at at (written r addr bytes).bytes r.bytes (λ k h. s.each (at + k) ∙ kept k h)
    ]

outside : (b c : Bool) (x y : ℕ) → b ≡ false → (if b && c then x else y) ≡ y
outside b c x y out = rw out refl

ignored : (b c : Bool) (x y : ℕ) → c ≡ false → (if b && c then x else y) ≡ y
ignored true c x y off = rw off refl
ignored false c x y off = refl

pub untouched : (r : Registers) (addr : ℕ) (bytes : List ℕ) (at n : ℕ) → length r.bytes ≡ 4096 → AreApart addr (length bytes) at n
    → number_at n at (written r addr bytes).bytes ≡ number_at n at r.bytes
untouched r addr bytes at n size far =
    kept_number r addr bytes at n size (λ k h.
    outside (is_within (at + k) addr (length bytes)) (is_writable r.kind (is_some (rate_by addr bytes)) (at + k)) _ _
    (elim far [ inl after ↦ past_test (at + k) addr (length bytes) (omega arith) | inr before ↦ before_test (at + k) addr (length bytes) (omega arith) ]))

pub unwritable : (r : Registers) (addr : ℕ) (bytes : List ℕ) (at n : ℕ) → length r.bytes ≡ 4096
    → ((k : ℕ) → k < n → is_writable r.kind (is_some (rate_by addr bytes)) (at + k) ≡ false)
    → number_at n at (written r addr bytes).bytes ≡ number_at n at r.bytes
unwritable r addr bytes at n size off =
    kept_number r addr bytes at n size (λ k h.
    ignored (is_within (at + k) addr (length bytes)) (is_writable r.kind (is_some (rate_by addr bytes)) (at + k)) _ _ (off k h))

pub stored_number : (r : Registers) (addr : ℕ) (bytes : List ℕ) (at n : ℕ) → length r.bytes ≡ 4096 → is_refused r.kind addr (length bytes) ≡ false
    → addr ≤ at → at + n ≤ addr + length bytes → ((k : ℕ) → k < n → is_writable r.kind (is_some (rate_by addr bytes)) (at + k) ≡ true)
    → number_at n at (written r addr bytes).bytes ≡ number_at n (at - addr) bytes
stored_number r addr bytes at n size done from to on =
    let s = written_stores r addr bytes size done in
    same_numbers n at (at - addr) (written r addr bytes).bytes bytes (λ k h.
    let e : at + k - addr ≡ at - addr + k = omega arith in
    let inside : is_within (at + k) addr (length bytes) ≡ true = within_test (at + k) addr (length bytes) (omega arith) (omega arith) in
    s.each (at + k) ∙ rw (inside, on k h) (ap (slice_index bytes) e))

-- the same for what is told
pub told_bounds : (rate : Option ℕ) (addr : ℕ) (bytes : List ℕ) → rate ≡ rate_by addr bytes → IfSome rate (λ g. (2 ≤ g) × (g ≤ 255))
told_bounds rate addr bytes is = rw is (rate_bounds addr bytes)

registers_path : (kind kind' : ClockKind) (bytes bytes' : List ℕ) → kind ≡ kind' → bytes ≡ bytes' → ◌≡◌ {A = Registers} (record { kind = kind; bytes = bytes }) (record { kind = kind'; bytes = bytes' })
registers_path kind kind' bytes bytes' p q = cc

-- a write that is not refused leaves what `written` says
pub write_is : (r : Registers) (kind : ClockKind) (addr at : ℕ) (bytes held after : List ℕ) (in_range : Bool) → kind ≡ r.kind → held ≡ r.bytes → at ≡ addr
    → is_refused kind at (length bytes) ≡ false → in_range ≡ is_some (rate_by at bytes) → after ≡ stored_bytes kind in_range at bytes held
    → ◌≡◌ {A = Registers} (record { kind = kind; bytes = after }) (written r addr bytes)
write_is r kind addr at bytes held after in_range k h a done i s =
    let same : after ≡ stored_bytes r.kind (is_some (rate_by addr bytes)) addr bytes r.bytes =
    s ∙ ap (λ x. stored_bytes x in_range at bytes held) k ∙ ap (λ x. stored_bytes r.kind in_range at bytes x) h
    ∙ ap (λ x. stored_bytes r.kind in_range x bytes r.bytes) a
    ∙ ap (λ x. stored_bytes r.kind x addr bytes r.bytes) (i ∙ ap (λ x. is_some (rate_by x bytes)) a) in
    let here : is_refused r.kind addr (length bytes) ≡ false =
    ap (λ x. is_refused x addr (length bytes)) (sym k) ∙ ap (λ x. is_refused kind x (length bytes)) (sym a) ∙ done in
    rw here (registers_path kind r.kind after (stored_bytes r.kind (is_some (rate_by addr bytes)) addr bytes r.bytes) k same)

written_path : (l l' : Bool) (r r' g g' b b' : Option ℕ) → l ≡ l' → r ≡ r' → g ≡ g' → b ≡ b'
    → ◌≡◌ {A = Written} (record { access = Done; latched = l; received = r; rate = g; activation = b }) (record { access = Done; latched = l'; received = r'; rate = g'; activation = b' })
written_path l l' r r' g g' b b' p q s t = cc

-- and tells what `told` says
pub write_tells : (kind kind' : ClockKind) (addr at : ℕ) (bytes : List ℕ) (l : Bool) (r g b : Option ℕ) → kind' ≡ kind → at ≡ addr
    → is_refused kind' at (length bytes) ≡ false → l ≡ latches at bytes → r ≡ received_by at bytes → g ≡ rate_by at bytes → b ≡ activation_by at bytes
    → ◌≡◌ {A = Written} (record { access = Done; latched = l; received = r; rate = g; activation = b }) (told kind addr bytes)
write_tells kind kind' addr at bytes l r g b k a done li ri gi bi =
    let here : is_refused kind addr (length bytes) ≡ false =
    ap (λ x. is_refused x addr (length bytes)) (sym k) ∙ ap (λ x. is_refused kind' x (length bytes)) (sym a) ∙ done in
    rw here (written_path l (latches addr bytes) r (received_by addr bytes) g (rate_by addr bytes) b (activation_by addr bytes)
    (li ∙ ap (λ x. latches x bytes) a) (ri ∙ ap (λ x. received_by x bytes) a) (gi ∙ ap (λ x. rate_by x bytes) a) (bi ∙ ap (λ x. activation_by x bytes) a))
