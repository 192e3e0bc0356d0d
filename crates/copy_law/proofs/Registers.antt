-- The registers of the offset and of the delay: what is at the start, and what a frame leaves that does not write them.
use Rattle.std.proofs.Common.{◌≡◌, ℕ, ◌+◌, ◌*◌, ◌/◌, ◌%◌, ◌^◌, ◌<◌, ◌≤◌, Bool, true, false, List, [], drop, Option, refl, sym, ap, ap₂, ◌∙◌, arith, inl, inr}
use Rattle.std.proofs.Math.Nat.{mod-eq_of_lt}
use Rattle.std.proofs.lemmas.List.{append-nil}
use Rattle.byteorder.specs.Endian.{little_bytes, little_from, little_number}
use Rattle.byteorder.specs.Numbers.{little_from-bytes}
use Rattle.ecat_frame.specs.FrameGrammar.{DatagramValue}
use Rattle.esc_regs.specs.RegisterBytes.{number_at}
use Rattle.esc_regs.specs.RegisterTable.{is_wide}
use Rattle.esc_regs.specs.StartOfRegisters.{registers_at_start}
use Rattle.esc_regs.specs.declared.clock_kind.ClockKind.{ClockKind}
use Rattle.esc_regs.specs.declared.clock_kind.ClockKind.TheVariants as kind
use Rattle.esc_regs.proofs.Exported.{apart, start_numbers, start_whole}
use Rattle.frame_pass.specs.FramePass.{at_arrival, slave_passed}
use Rattle.frame_pass.specs.Invariants.{IsSound}
use Rattle.frame_pass.specs.PlainRegisters.{AreLeft, IsPlain}
use Rattle.frame_pass.specs.SlaveState.{Slave, holds, width}
use Rattle.frame_pass.proofs.Exported.{fixed_passed, left_passed}
use Rattle.master_script.specs.Frames.{width as bytes_by}
use Rattle.segment_start.specs.Start.{registers_of}
use Rattle.delay_law.proofs.Exported.{number_split}
use Rattle.copy_law.specs.HeldOffsets.{HoldsSet}

-- a slave sets neither itself
pub offset_plain : (m : ℕ) → m ≤ 8 → IsPlain 0x0920 m
offset_plain m few = record { ports = inl (omega arith); unit = inl (omega arith); difference = inr (omega (arith, few)); status = inr (omega (arith, few)); stamp = inr (omega (arith, few)) }

pub delay_plain : IsPlain 0x0928 4
delay_plain = record { ports = inl (omega arith); unit = inl (omega arith); difference = inr (omega arith); status = inr (omega arith); stamp = inr (omega arith) }

-- both are 0 at the start
offset_first : (k : ClockKind) (status : ℕ) → holds 8 0x0920 (registers_of k status) ≡ 0
unfolding registers_of
offset_first k status =
    let size = (start_whole k).size in
    apart 2 0x0110 status (registers_at_start k).bytes 0x0920 8 (omega (arith, size)) (inl (omega arith)) ∙ (start_numbers k).1.1.1.1.1.1.1.1.1.1.0

delay_first : (k : ClockKind) (status : ℕ) → holds 4 0x0928 (registers_of k status) ≡ 0
unfolding registers_of
delay_first k status =
    let size = (start_whole k).size in
    apart 2 0x0110 status (registers_at_start k).bytes 0x0928 4 (omega (arith, size)) (inl (omega arith)) ∙ (start_numbers k).1.1.1.1.1.1.1.1.1.1.1.0

none_of : (k : ClockKind) → 0 % 2 ^ width k ≡ 0
unfolding width
none_of kind.None = refl
none_of kind.R32 = refl
none_of kind.C32 = refl
none_of kind.C64 = refl

kind_first : (k : ClockKind) (status : ℕ) → (registers_of k status).kind ≡ k
unfolding registers_of
kind_first k status = refl

pub none_first : (k : ClockKind) (status : ℕ) → HoldsSet 0 0 (registers_of k status)
none_first k status = record { offset_is = ap₂ (λ x j. x % 2 ^ width j) (offset_first k status) (kind_first k status) ∙ none_of k; delay_is = delay_first k status }

-- a slave that is of the same kind as before, and holds the same offset and delay
pub record HoldsOn (v u : Slave) : Type 0 where
  pub kind_is : u.registers.kind ≡ v.registers.kind
  pub offset_is : holds 8 0x0920 u.registers ≡ holds 8 0x0920 v.registers
  pub delay_is : holds 4 0x0928 u.registers ≡ holds 4 0x0928 v.registers

pub on_same : (v : Slave) → HoldsOn v v
on_same v = record { kind_is = refl; offset_is = refl; delay_is = refl }

pub set_on : (x y : ℕ) (v u : Slave) → HoldsOn v u → HoldsSet x y v.registers → HoldsSet x y u.registers
set_on x y v u on h = record { offset_is = ap₂ (λ x k. x % 2 ^ width k) on.offset_is on.kind_is ∙ h.offset_is; delay_is = on.delay_is ∙ h.delay_is }

-- a frame that writes neither leaves both
pub passed_on : (sent trip : ℕ) (end : Option ℕ) (v : Slave) (ds : List DatagramValue) → IsSound trip (sent + trip) v → AreLeft 0x0920 8 (at_arrival sent v) ds → AreLeft 0x0928 4 (at_arrival sent v) ds
    → HoldsOn v (slave_passed sent end v ds)
passed_on sent trip end v ds sound offset delay = record {
  kind_is = ap (λ p. p.kind) (fixed_passed sent end v ds);
  offset_is = left_passed 0x0920 8 sent trip (sent + trip) end v ds (offset_plain 8 (omega arith)) (omega arith) sound offset;
  delay_is = left_passed 0x0928 4 sent trip (sent + trip) end v ds delay_plain (omega arith) sound delay;
}

-- the number that some bytes bring
pub number_brought : (n x : ℕ) → number_at n 0 (little_bytes n x) ≡ x % 256 ^ n
unfolding number_at
number_brought n x =
    let whole : x / 1 ≡ x = omega arith in
    ap (λ bs. little_number n bs) (sym (append-nil (little_bytes n x))) ∙ little_from-bytes n 0 x [] ∙ ap (λ y. y % 256 ^ n) whole

pub word_brought : (wide : Bool) (x : ℕ) → x < 2 ^ (8 * bytes_by wide) → number_at (bytes_by wide) 0 (little_bytes (bytes_by wide) x) ≡ x
word_brought true x few = number_brought 8 x ∙ mod-eq_of_lt few
word_brought false x few = number_brought 4 x ∙ mod-eq_of_lt few

-- a word in a register of 8 bytes, by those that a slave of its kind has there
low_word : (x low high n : ℕ) → n ≡ low + 2 ^ 32 * high → low ≡ x → x < 2 ^ 32 → n % 2 ^ 32 ≡ x
low_word x low high n e f few = omega (arith, e, f, few)

narrow : (at x : ℕ) (bytes : List ℕ) → number_at 4 at bytes ≡ x → x < 2 ^ 32 → number_at 8 at bytes % 2 ^ 32 ≡ x
narrow at x bytes is few = low_word x (number_at 4 at bytes) (little_from 4 4 (drop at bytes)) (number_at 8 at bytes) (number_split at bytes) is few

pub word_is : (k : ClockKind) (at x : ℕ) (bytes : List ℕ) → x < 2 ^ (8 * bytes_by (is_wide k)) → number_at (bytes_by (is_wide k)) at bytes ≡ x → number_at 8 at bytes % 2 ^ width k ≡ x
unfolding width
word_is kind.None at x bytes few is = narrow at x bytes is few
word_is kind.R32 at x bytes few is = narrow at x bytes is few
word_is kind.C32 at x bytes few is = narrow at x bytes is few
word_is kind.C64 at x bytes few is = ap (λ y. y % 2 ^ 64) is ∙ mod-eq_of_lt few
