-- What a planned datagram activates of a slave at its position.
use Rattle.std.proofs.Common.{◌≡◌, ℕ, List, [], ◌∷◌, length, Option, None, Bool, true, false, refl, sym, ap, ap₂, subst, ◌∙◌, arith, inl, inr}
use Rattle.std.specs.Prelude.{IfSome, ◌==◌, ◌&&◌}
use Rattle.std.proofs.lemmas.Bool.{eqb-true}
use Rattle.std.proofs.lemmas.Bool.Decides.{nat_tests}
use Rattle.ecat_frame.specs.FrameGrammar.{DatagramValue}
use Rattle.esc_regs.specs.RegisterAccess.{is_refused, covers}
use Rattle.esc_regs.specs.RegisterWrite.{told}
use Rattle.esc_regs.specs.declared.clock_kind.ClockKind.{ClockKind}
use Rattle.esc_regs.specs.declared.clock_kind.ClockKind.TheVariants as kind
use Rattle.esc_regs.specs.Kinds.{has_clock}
use Rattle.sync_units.specs.declared.edge.Signal.{Signal}
use Rattle.sync_units.specs.declared.edge.Signal.TheVariants.{Sync0, Sync1}
use Rattle.frame_pass.specs.SlaveState.{Slave, station}
use Rattle.frame_pass.specs.DatagramTable.{writes}
use Rattle.frame_pass.specs.DatagramAtSlave.{doing}
use Rattle.frame_pass.proofs.Exported.{idle, other_station, not_covered}
use Rattle.honest_slaves.specs.Standing.{HasAddress, Stands, own_address}
use Rattle.honest_slaves.specs.Planned.{BringsActivation, IsPlanned}
use Rattle.honest_slaves.proofs.AtSlaves.{MayActivate}

unlike : (b : Bool) → b ≡ true → b ≡ false → ⊥
unlike true e f = let z = f in cc
unlike false e f = let z = e in cc

-- a slave without a clock refuses a write that covers its activation
whole_covers_not : (k : ClockKind) (addr n : ℕ) → has_clock k ≡ false → is_refused k addr n ≡ false → covers 0x0981 1 addr n ≡ false
whole_covers_not kind.None addr n none whole = grind (arith, nat_tests, whole)
whole_covers_not kind.R32 addr n none whole = grind (arith, nat_tests, whole)
whole_covers_not kind.C32 addr n none whole = absurd (let z = none in cc)
whole_covers_not kind.C64 addr n none whole = absurd (let z = none in cc)

uncovered : (k : ClockKind) (addr : ℕ) (bytes : List ℕ) → (is_refused k addr (length bytes) ≡ false → covers 0x0981 1 addr (length bytes) ≡ false) → (told k addr bytes).activation ≡ None
uncovered k addr bytes apart = by (is_refused k addr (length bytes)) refl
  where
    by : (b : Bool) → is_refused k addr (length bytes) ≡ b → (told k addr bytes).activation ≡ None
    by true e = rw e refl
    by false e = let none = apart e in rw (e, none) refl

-- where a write brings this one byte to the activation, it brings no other
brings_byte : (P : ℕ → Type 0) (k : ClockKind) (byte : ℕ) → P byte → IfSome (told k 0x0981 (byte ∷ [])).activation P
brings_byte P kind.None byte p = tt
brings_byte P kind.R32 byte p = tt
brings_byte P kind.C32 byte p = p
brings_byte P kind.C64 byte p = p

-- a slave that writes by station address is the one of that position
own_place : (q p address : ℕ) → HasAddress false q address → own_address p ≡ address → p ≡ q
own_place q p address (inl zero) same = absurd (omega (arith, zero, same))
own_place q p address (inr own) same = omega (arith, own, same)

addressed : (q : ℕ) (s : Slave) (sync1 : ℕ → Bool) (d : DatagramValue) → HasAddress false q (station s.registers) → (a : BringsActivation sync1 d) → writes (doing s d) ≡ true → a.position ≡ q
addressed q s sync1 d has a w = by (d.head.adp == station s.registers) refl
  where
    by : (b : Bool) → (d.head.adp == station s.registers) ≡ b → a.position ≡ q
    by true e = own_place q a.position (station s.registers) has (sym a.adp ∙ eqb-true d.head.adp (station s.registers) e)
    by false e = absurd (unlike (writes (doing s d)) w (ap writes (other_station s d (inr a.command) e)))

module _ (k : ClockKind) (status q : ℕ) (sync1 : ℕ → Bool) (own : Signal → Bool) (first : own Sync0 ≡ has_clock k) (second : own Sync1 ≡ (has_clock k && sync1 q)) where
  nothing : (s : Slave) (d : DatagramValue) → (told k d.head.ado d.payload).activation ≡ None → s.registers.kind ≡ k → IfSome (told s.registers.kind d.head.ado d.payload).activation (MayActivate own)
  nothing s d none is = subst (λ (o : Option ℕ). IfSome o (MayActivate own)) (sym (ap (λ x. (told x d.head.ado d.payload).activation) is ∙ none)) tt

  pub planned_activates : (s : Slave) (d : DatagramValue) → Stands k status false q s → IsPlanned sync1 d → writes (doing s d) ≡ true
      → IfSome (told s.registers.kind d.head.ado d.payload).activation (MayActivate own)
  planned_activates s d h (inl never) w = absurd (unlike (writes (doing s d)) w (idle s d never))
  planned_activates s d h (inr (inl far)) w =
      nothing s d (uncovered k d.head.ado d.payload (λ whole. not_covered 0x0981 1 d.head.ado (length d.payload) (omega arith) far)) h.slave.kind_is
  planned_activates s d h (inr (inr a)) w = by (has_clock k) refl
    where
      by : (b : Bool) → has_clock k ≡ b → IfSome (told s.registers.kind d.head.ado d.payload).activation (MayActivate own)
      by false none = nothing s d (uncovered k d.head.ado d.payload (λ whole. whole_covers_not k d.head.ado (length d.payload) none whole)) h.slave.kind_is
      by true clock =
          let here = addressed q s sync1 d h.address a w in
          let may : MayActivate own a.byte = record {
            sync0 = first ∙ clock;
            sync1 = λ bit. second ∙ ap₂ (λ b c. b && c) clock (ap sync1 (sym here) ∙ a.planned bit);
          } in
          let ado = a.ado in
          let payload = a.payload in
          rw (ado, payload) (brings_byte (MayActivate own) s.registers.kind a.byte may)
