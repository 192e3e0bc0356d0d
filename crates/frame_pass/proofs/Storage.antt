-- What a datagram stores.
use Rattle.std.proofs.Common.{◌≡◌, ℕ, ◌+◌, ◌-◌, ◌<◌, ◌≤◌, ◌&&◌, ◌||◌, ◌⊎◌, Bool, true, false, List, [], ◌∷◌, length, refl, ap, ◌∙◌, arith, inl, inr}
use Rattle.std.specs.Prelude.{if◌then◌else◌, ◌==◌}
use Rattle.std.specs.List.{list_any}
use Rattle.std.specs.Option.{is_some}
use Rattle.std.proofs.lemmas.Bool.{eqb-true}
use Rattle.ecat_frame.specs.FrameGrammar.{DatagramValue}
use Rattle.esc_regs.specs.declared.clock_kind.ClockKind.{ClockKind}
use Rattle.esc_regs.specs.declared.table.Writing.{Writing}
use Rattle.esc_regs.specs.declared.table.Writing.TheVariants.{Ignored, Stored, StoredInRange}
use Rattle.esc_regs.specs.RegisterBytes.{number_at}
use Rattle.esc_regs.specs.RegisterTable.{Register, registers, held, is_within}
use Rattle.esc_regs.specs.RegisterAccess.{stores, is_writable, rate_by}
use Rattle.esc_regs.specs.RegisterWrite.{written}
use Rattle.esc_regs.proofs.Exported.{stored_number, both, within_test}
use Rattle.frame_pass.specs.SlaveState.{Slave, holds}
use Rattle.frame_pass.specs.DatagramTable.{writes}
use Rattle.frame_pass.specs.DatagramAtSlave.{is_refused_by, doing, slave_after}
use Rattle.frame_pass.specs.PlainRegisters.{IsPlain}
use Rattle.frame_pass.proofs.Plain.{plain_datagram}
use Rattle.frame_pass.proofs.Sizes.{HasSize}
use Rattle.frame_pass.specs.Stored.{is_stored_at, is_stored}

either : (a b : Bool) → (a || b) ≡ true → (a ≡ true) ⊎ (b ≡ true)
either true b e = inl refl
either false b e = inr e

first_of : (a b : Bool) → a ≡ true → (a || b) ≡ true
first_of true b e = refl
first_of false b e = absurd (let z = e in cc)

second_of : (a b : Bool) → b ≡ true → (a || b) ≡ true
second_of true b e = refl
second_of false b e = e

-- what is stored whatever is brought, is stored
stores_always : (in_range : Bool) (w : Writing) → stores false w ≡ true → stores in_range w ≡ true
stores_always b Ignored e = absurd (let z = e in cc)
stores_always b Stored e = refl
stores_always b StoredInRange e = absurd (let z = e in cc)

both_true : (a b : Bool) → a ≡ true → b ≡ true → (a && b) ≡ true
both_true true b e f = f
both_true false b e f = absurd (let z = e in cc)

stored_row : (kind : ClockKind) (b : Bool) (addr n a : ℕ) (r : Register) → addr ≤ a → a < addr + held kind n → is_stored_at addr n r ≡ true
    → (stores b r.writes && is_within a r.addr (held kind r.bytes)) ≡ true
stored_row kind b addr n a r from to h =
    let t = both (r.addr == addr) ((r.bytes == n) && stores false r.writes) h in
    let u = both (r.bytes == n) (stores false r.writes) t.1 in
    let place = eqb-true r.addr addr t.0 in
    let size : held kind r.bytes ≡ held kind n = ap (held kind) (eqb-true r.bytes n u.0) in
    both_true (stores b r.writes) (is_within a r.addr (held kind r.bytes)) (stores_always b r.writes u.1)
    (within_test a r.addr (held kind r.bytes) (omega (arith, place, from)) (omega (arith, place, size, to)))

stored_rows : (kind : ClockKind) (b : Bool) (addr n a : ℕ) (rows : List Register) → addr ≤ a → a < addr + held kind n → list_any (is_stored_at addr n) rows ≡ true
    → list_any (λ r. stores b r.writes && is_within a r.addr (held kind r.bytes)) rows ≡ true
stored_rows kind b addr n a [] from to h = absurd (let z = h in cc)
stored_rows kind b addr n a (r ∷ rows) from to h =
    elim (either (is_stored_at addr n r) (list_any (is_stored_at addr n) rows) h) [
      | inl here ↦ first_of _ _ (stored_row kind b addr n a r from to here)
      | inr there ↦ second_of (stores b r.writes && is_within a r.addr (held kind r.bytes)) _ (stored_rows kind b addr n a rows from to there)
    ]

pub writable : (kind : ClockKind) (b : Bool) (addr n a : ℕ) → is_stored addr n ≡ true → addr ≤ a → a < addr + held kind n → is_writable kind b a ≡ true
unfolding is_writable
writable kind b addr n a h from to = stored_rows kind b addr n a registers from to h

-- who writes is not refused
writes_whole : (s : Slave) (d : DatagramValue) → writes (doing s d) ≡ true → is_refused_by s d ≡ false
unfolding doing
writes_whole s d e = by (is_refused_by s d) refl
  where
    by : (b : Bool) → is_refused_by s d ≡ b → is_refused_by s d ≡ false
    by true f = absurd (let z = (rw f at e) in cc)
    by false f = f

-- so a datagram that has the first m bytes of such a register stores them
pub stores_number : (addr n m : ℕ) (s : Slave) (d : DatagramValue) → HasSize s.registers → is_stored addr n ≡ true → m ≤ held s.registers.kind n → IsPlain addr m → writes (doing s d) ≡ true
    → d.head.ado ≤ addr → addr + m ≤ d.head.ado + length d.payload → holds m addr (slave_after s d).registers ≡ number_at m (addr - d.head.ado) d.payload
stores_number addr n m s d size stored few plain w from to =
    plain_datagram addr m s d plain size
    ∙ ap (λ b. holds m addr (if b then written s.registers d.head.ado d.payload else s.registers)) w
    ∙ stored_number s.registers d.head.ado d.payload addr m size (writes_whole s d w) from to
    (λ k less. writable s.registers.kind (is_some (rate_by d.head.ado d.payload)) addr n (addr + k) stored (omega arith) (omega (arith, few, less)))
