-- What a datagram reads.
use Rattle.std.proofs.Common.{◌≡◌, ℕ, ◌+◌, ◌%◌, ◌^◌, ◌≤◌, ◌++◌, List, length, drop, Option, Some, None, Bool, true, false, slice_index, slice_range, refl, ap, ◌∙◌, arith, inl, inr}
use Rattle.std.proofs.lemmas.Grind.{common_steps}
use Rattle.std.proofs.Math.Nat.{div-one}
use Rattle.std.specs.Int.{bytes_low_first}
use Rattle.byteorder.specs.Endian.{little_from}
use Rattle.byteorder.specs.Numbers.{little_from-bytes, length-bytes_low_first}
use Rattle.ecat_frame.specs.FrameGrammar.{DatagramValue}
use Rattle.esc_regs.specs.declared.clock_kind.ClockKind.{ClockKind}
use Rattle.esc_regs.specs.declared.live.Live.{Live}
use Rattle.esc_regs.specs.RegisterBytes.{number_at, with_number, AreApart}
use Rattle.esc_regs.specs.RegisterFile.{Registers}
use Rattle.esc_regs.specs.RegisterTable.{held}
use Rattle.esc_regs.specs.ShownRegisters.{shown, showing}
use Rattle.esc_regs.proofs.Exported.{same_numbers, apart, range_byte, range_length, showing_length, not_past, held_all, held_few}
use Rattle.frame_pass.specs.SlaveState.{Timing, Slave, holds}
use Rattle.frame_pass.specs.LiveRegisters.{live, read_of, system_time}
use Rattle.frame_pass.specs.DatagramTable.{reads, merges}
use Rattle.frame_pass.specs.DatagramAtSlave.{is_refused_by, doing, payload_after, datagram_after}
use Rattle.frame_pass.proofs.Sizes.{HasSize, size_shown}

-- who reads is not refused
reads_whole : (s : Slave) (d : DatagramValue) → reads (doing s d) ≡ true → is_refused_by s d ≡ false
unfolding doing
reads_whole s d e = by (is_refused_by s d) refl
  where
    by : (b : Bool) → is_refused_by s d ≡ b → is_refused_by s d ≡ false
    by true f = absurd (let z = (rw f at e) in cc)
    by false f = f

abbrev pub shown_bytes : Slave → List ℕ
shown_bytes s = (shown (live s.registers s.timing) s.registers).bytes

pub data_read : (s : Slave) (d : DatagramValue) → reads (doing s d) ≡ true → merges d.head.command ≡ false
    → (datagram_after s d).payload ≡ slice_range (shown_bytes s) d.head.ado (d.head.ado + length d.payload)
unfolding datagram_after payload_after read_of
data_read s d e plain = rw (e, plain, reads_whole s d e) refl

within : (s : Slave) (d : DatagramValue) → HasSize s.registers → reads (doing s d) ≡ true → d.head.ado + length d.payload ≤ length (shown_bytes s)
within s d size e =
    let long = size_shown (live s.registers s.timing) s.registers size in
    let low = not_past s.registers.kind d.head.ado (length d.payload) (reads_whole s d e) in
    omega (arith, long, low)

pub size_read : (s : Slave) (d : DatagramValue) → HasSize s.registers → reads (doing s d) ≡ true → merges d.head.command ≡ false
    → length (datagram_after s d).payload ≡ length d.payload
size_read s d size e plain = ap length (data_read s d e plain) ∙ range_length (shown_bytes s) d.head.ado (length d.payload) (within s d size e)

-- a number in the data is the number in what is shown
number_read : (s : Slave) (d : DatagramValue) (j k : ℕ) → HasSize s.registers → reads (doing s d) ≡ true → merges d.head.command ≡ false → j + k ≤ length d.payload
    → number_at k j (datagram_after s d).payload ≡ number_at k (d.head.ado + j) (shown_bytes s)
number_read s d j k size e plain room =
    let n = length d.payload in
    ap (number_at k j) (data_read s d e plain)
    ∙ same_numbers k j (d.head.ado + j) (slice_range (shown_bytes s) d.head.ado (d.head.ado + n)) (shown_bytes s)
    (λ i less. range_byte (shown_bytes s) d.head.ado n (j + i) (within s d size e) (omega (arith, room, less))
    ∙ (let place : d.head.ado + (j + i) ≡ d.head.ado + j + i = omega arith in ap (slice_index (shown_bytes s)) place))

-- a live number leaves what is apart from it
left_showing : (kind : ClockKind) (at a k : ℕ) (o : Option ℕ) (bytes : List ℕ) → at + 8 ≤ length bytes → AreApart at 8 a k → number_at k a (showing kind at o bytes) ≡ number_at k a bytes
left_showing kind at a k None bytes room far = refl
left_showing kind at a k (Some x) bytes room far =
    let few = held_few kind in
    apart (held kind 8) at x bytes a k (omega (arith, few, room)) (elim far [ inl h ↦ inl (omega (arith, few, h)) | inr h ↦ inr h ])

time_length : (r : Registers) (o : Option ℕ) → HasSize r → length (showing r.kind 0x0910 o r.bytes) ≡ 4096
time_length r o size = let few = held_few r.kind in showing_length r.kind 0x0910 o r.bytes (omega (arith, few, size)) ∙ size

number_shown : (l : Live) (r : Registers) (a k : ℕ) → HasSize r → AreApart 0x0910 8 a k → AreApart 0x0990 8 a k → number_at k a (shown l r).bytes ≡ holds k a r
number_shown l r a k size far far' =
    let long = time_length r l.system_time size in
    left_showing r.kind 0x0990 a k l.next_due (showing r.kind 0x0910 l.system_time r.bytes) (omega (arith, long)) far'
    ∙ left_showing r.kind 0x0910 a k l.system_time r.bytes (omega (arith, size)) far

pub held_read : (s : Slave) (d : DatagramValue) (j k : ℕ) → HasSize s.registers → reads (doing s d) ≡ true → merges d.head.command ≡ false → j + k ≤ length d.payload
    → AreApart 0x0910 8 (d.head.ado + j) k → AreApart 0x0990 8 (d.head.ado + j) k
    → number_at k j (datagram_after s d).payload ≡ holds k (d.head.ado + j) s.registers
held_read s d j k size e plain room far far' =
    number_read s d j k size e plain room ∙ number_shown (live s.registers s.timing) s.registers (d.head.ado + j) k size far far'

-- the low half of a number of 4 or 8 bytes
half_8 : (at x : ℕ) (bytes : List ℕ) → at + 8 ≤ length bytes → number_at 4 at (with_number 8 at x bytes) ≡ x % 2 ^ 32
unfolding number_at with_number
half_8 at x bytes room =
    let e = length-bytes_low_first 0 8 x in
    let d : drop at (with_number 8 at x bytes) ≡ bytes_low_first 0 8 x ++ drop (at + 8) bytes = grind (arith, common_steps) in
    ap (λ ys. little_from 0 4 ys) d ∙ little_from-bytes 4 0 x (bytes_low_first 4 4 x ++ drop (at + 8) bytes) ∙ ap (λ (y : ℕ). y % 2 ^ 32) (div-one x)

half_4 : (at x : ℕ) (bytes : List ℕ) → at + 4 ≤ length bytes → number_at 4 at (with_number 4 at x bytes) ≡ x % 2 ^ 32
unfolding number_at with_number
half_4 at x bytes room =
    let e = length-bytes_low_first 0 4 x in
    let d : drop at (with_number 4 at x bytes) ≡ bytes_low_first 0 4 x ++ drop (at + 4) bytes = grind (arith, common_steps) in
    ap (λ ys. little_from 0 4 ys) d ∙ little_from-bytes 4 0 x (drop (at + 4) bytes) ∙ ap (λ (y : ℕ). y % 2 ^ 32) (div-one x)

half_shown : (kind : ClockKind) (at x : ℕ) (bytes : List ℕ) → at + 8 ≤ length bytes → number_at 4 at (with_number (held kind 8) at x bytes) ≡ x % 2 ^ 32
half_shown kind at x bytes room = elim (held_all kind 8) [
  | inl h ↦ ap (λ n. number_at 4 at (with_number n at x bytes)) h ∙ half_8 at x bytes room
  | inr h ↦ ap (λ n. number_at 4 at (with_number n at x bytes)) h.2 ∙ half_4 at x bytes (omega (arith, room))
]

pub time_read : (s : Slave) (m : Timing) (d : DatagramValue) → HasSize s.registers → s.timing ≡ Some m → reads (doing s d) ≡ true → merges d.head.command ≡ false
    → d.head.ado ≡ 0x0910 → 4 ≤ length d.payload
    → number_at 4 0 (datagram_after s d).payload ≡ system_time (record { registers = s.registers; timing = m }) % 2 ^ 32
time_read s m d size is e plain place room =
    let t = system_time (record { registers = s.registers; timing = m }) in
    let r = s.registers in
    let long = time_length r (Some t) size in
    let zero : d.head.ado + 0 ≡ 0x0910 = omega (arith, place) in
    number_read s d 0 4 size e plain (omega (arith, room)) ∙ ap (λ a. number_at 4 a (shown_bytes s)) zero
    ∙ ap (λ o. number_at 4 0x0910 (shown (live r o) r).bytes) is
    ∙ left_showing r.kind 0x0990 0x0910 4 (live r (Some m)).next_due (showing r.kind 0x0910 (Some t) r.bytes) (omega (arith, long)) (inr (omega arith))
    ∙ half_shown r.kind 0x0910 t r.bytes (omega (arith, size))
