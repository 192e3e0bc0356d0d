-- The frame of Rate at a clock: behind it the clock corrects as the speed says that it brings.
use Rattle.std.proofs.Common.{◌≡◌, ℕ, zero, suc, ◌/◌, ◌^◌, ◌<◌, ◌≤◌, Bool, true, false, nat_le, List, [], ◌∷◌, length, Option, Some, None, refl, ap, ap₂, ◌∙◌, arith}
use Rattle.std.specs.Prelude.{if◌then◌else◌}
use Rattle.std.proofs.Math.Nat.{mod-eq_of_lt}
use Rattle.std.proofs.lemmas.Bool.Decides.{nat_tests}
use Rattle.byteorder.specs.Endian.{little_bytes}
use Rattle.copy_law.specs.Untouched.{ticks_to_correction}
use Rattle.copy_law.proofs.Corrections.{same_activated, same_ports}
use Rattle.copy_law.proofs.Registers.{number_brought}
use Rattle.ecat_frame.specs.FrameGrammar.{DatagramValue}
use Rattle.ecat_frame.specs.declared.command.Command.TheVariants.{Bwr}
use Rattle.esc_regs.specs.Kinds.{has_clock}
use Rattle.esc_regs.specs.RegisterAccess.{is_refused, is_speed, rate_by}
use Rattle.esc_regs.specs.RegisterBytes.{number_at}
use Rattle.esc_regs.specs.RegisterWrite.{told, written}
use Rattle.esc_regs.specs.declared.answers.Written.{Written}
use Rattle.esc_regs.specs.declared.clock_kind.ClockKind.{ClockKind}
use Rattle.esc_regs.specs.declared.clock_kind.ClockKind.TheVariants as kind
use Rattle.frame_pass.specs.DatagramAtSlave.{datagram_after, doing, is_refused_by, slave_after}
use Rattle.frame_pass.specs.DatagramTable.{doing_by, reads, writes}
use Rattle.frame_pass.specs.FramePass.{are_latching, at_arrival, datagrams_after, datagrams_behind, datagrams_passed, slave_behind, slave_passed}
use Rattle.frame_pass.specs.SlaveState.{Measuring, Slave, Timing, on_measuring_of}
use Rattle.frame_pass.specs.WriteEffects.{affected, compared, latched, reset_by, wrote}
use Rattle.frame_pass.proofs.Exported.{kept_unread}
use Rattle.master_script.specs.Frames.{rate_datagrams}

-- a broadcast that writes a speed
pub record IsRate (speed : ℕ) (d : DatagramValue) : Type 0 where
  pub command : d.head.command ≡ Bwr
  pub ado : d.head.ado ≡ 0x0930
  pub payload : d.payload ≡ little_bytes 2 speed

pub record IsRateFrame (speed : ℕ) (ds : List DatagramValue) : Type 0 where
  pub first : DatagramValue
  pub are : ds ≡ first ∷ []
  pub is : IsRate speed first

same_command : (v : Slave) (d : DatagramValue) → (datagram_after v d).head.command ≡ d.head.command
unfolding datagram_after
same_command v d = refl

same_ado : (v : Slave) (d : DatagramValue) → (datagram_after v d).head.ado ≡ d.head.ado
unfolding datagram_after
same_ado v d = refl

-- no slave reads for it, so it comes to each as it was sent
not_read : (v : Slave) (d : DatagramValue) → d.head.command ≡ Bwr → reads (doing v d) ≡ false
unfolding doing doing_by
not_read v d command = by (is_refused_by v d) refl
  where
    by : (b : Bool) → is_refused_by v d ≡ b → reads (doing v d) ≡ false
    by true e = rw e refl
    by false e = rw (e, command) refl

rate_after : (speed : ℕ) (v : Slave) (d : DatagramValue) → IsRate speed d → IsRate speed (datagram_after v d)
rate_after speed v d h = record {
  command = same_command v d ∙ h.command;
  ado = same_ado v d ∙ h.ado;
  payload = kept_unread v d (not_read v d h.command) ∙ h.payload;
}

rate_on : (speed h sent : ℕ) (ss : List Slave) (d : DatagramValue) → IsRate speed d → IsRateFrame speed (datagrams_behind h sent ss (d ∷ []))
unfolding datagrams_behind datagrams_passed datagrams_after
rate_on speed zero sent ss d l = record { first = d; are = refl; is = l }
rate_on speed (suc h) sent [] d l = record { first = d; are = refl; is = l }
rate_on speed (suc h) sent (s ∷ ss) d l = rate_on speed h sent ss (datagram_after (at_arrival sent s) d) (rate_after speed (at_arrival sent s) d l)

pub rate_frame : (speed h sent : ℕ) (ss : List Slave) → IsRateFrame speed (datagrams_behind h sent ss (rate_datagrams speed))
rate_frame speed h sent ss = rate_on speed h sent ss _ (record { command = refl; ado = refl; payload = refl })

-- a clock does not refuse it
not_refused : (k : ClockKind) → has_clock k ≡ true → is_refused k 0x0930 2 ≡ false
not_refused kind.None e = absurd (let z = e in cc)
not_refused kind.R32 e = absurd (let z = e in cc)
not_refused kind.C32 e = refl
not_refused kind.C64 e = refl

-- the rate that the bytes of a speed bring
in_range : (speed : ℕ) → 128 ≤ speed → speed ≤ 16383 → is_speed speed ≡ true
in_range speed least most =
    let low : nat_le 0x0080 speed ≡ true = grind (arith, nat_tests, least) in
    let high : nat_le speed 0x3FFF ≡ true = grind (arith, nat_tests, most) in
    rw (low, high) refl

abbrev rate_of : ℕ → Option ℕ
rate_of x = if is_speed x then Some (x / 64) else None

rate_is : (speed : ℕ) → 128 ≤ speed → speed ≤ 16383 → rate_by 0x0930 (little_bytes 2 speed) ≡ Some (speed / 64)
rate_is speed least most =
    let few : speed < 256 ^ 2 = omega (arith, most) in
    let number : number_at 2 0 (little_bytes 2 speed) ≡ speed = number_brought 2 speed ∙ mod-eq_of_lt few in
    ap rate_of number ∙ ap (λ (b : Bool). if b then Some (speed / 64) else None) (in_range speed least most)

told_if : ClockKind → List ℕ → Bool → Option ℕ
told_if k bytes refused = if refused then None else rate_by 0x0930 bytes

told_rate : (k : ClockKind) (speed : ℕ) → has_clock k ≡ true → 128 ≤ speed → speed ≤ 16383 → (told k 0x0930 (little_bytes 2 speed)).rate ≡ Some (speed / 64)
told_rate k speed clock least most = rw (not_refused k clock) (rate_is speed least most)

-- what the write leaves
abbrev g_of : Measuring → ℕ
g_of m = m.timing.clock.g

reset_is : (o : Option ℕ) (m : Measuring) (g : ℕ) → o ≡ Some g → g_of (reset_by o m) ≡ g
unfolding reset_by
reset_is o m g e = rw e refl

rated_affected : (w : Written) (m : Measuring) (g : ℕ) → w.rate ≡ Some g → g_of (affected w m) ≡ g
rated_affected w m g e =
    let b = compared w.received (latched w.latched m) in
    same_activated w.activation (reset_by w.rate b) ∙ reset_is w.rate b g e

rated_on : (f : Measuring → Measuring) (s : Slave) (o : Option Timing) (m : Timing) (g : ℕ) → o ≡ Some m → ((k : Measuring) → g_of (f k) ≡ g) → ticks_to_correction (on_measuring_of f s o) ≡ Some g
rated_on f s None m g e set = absurd (let z = e in cc)
rated_on f s (Some t) m g e set = ap (λ (x : ℕ). Some x) (set (record { registers = s.registers; timing = t }))

rated_wrote : (addr : ℕ) (bytes : List ℕ) (s : Slave) (m : Timing) (g : ℕ) → s.timing ≡ Some m → (told s.registers.kind addr bytes).rate ≡ Some g → ticks_to_correction (wrote addr bytes s) ≡ Some g
unfolding wrote
rated_wrote addr bytes s m g is rate =
    rated_on (affected (told s.registers.kind addr bytes)) (record s { registers = written s.registers addr bytes }) s.timing m g is
    (λ k. rated_affected (told s.registers.kind addr bytes) k g rate)

-- a clock that the datagram comes to
module _ (speed : ℕ) (least : 128 ≤ speed) (most : speed ≤ 16383) (s : Slave) (m : Timing) (is : s.timing ≡ Some m) (clock : has_clock s.registers.kind ≡ true) where
  writes_it : (d : DatagramValue) → IsRate speed d → writes (doing s d) ≡ true
  unfolding doing doing_by
  writes_it d h =
      let fits : is_refused s.registers.kind d.head.ado (length d.payload) ≡ false =
      ap₂ (λ (a : ℕ) (bs : List ℕ). is_refused s.registers.kind a (length bs)) h.ado h.payload ∙ not_refused s.registers.kind clock in
      rw (fits, h.command) refl

  rated_after : (d : DatagramValue) → IsRate speed d → ticks_to_correction (slave_after s d) ≡ Some (speed / 64)
  unfolding slave_after
  rated_after d h =
      ap (λ (b : Bool). ticks_to_correction (if b then wrote d.head.ado d.payload s else s)) (writes_it d h)
      ∙ ap₂ (λ (a : ℕ) (bs : List ℕ). ticks_to_correction (wrote a bs s)) h.ado h.payload
      ∙ rated_wrote 0x0930 (little_bytes 2 speed) s m (speed / 64) is (told_rate s.registers.kind speed clock least most)

  rated_behind : (ds : List DatagramValue) → IsRateFrame speed ds → ticks_to_correction (slave_behind s ds) ≡ Some (speed / 64)
  unfolding slave_behind
  rated_behind ds f = ap (λ (xs : List DatagramValue). ticks_to_correction (slave_behind s xs)) f.are ∙ rated_after f.first f.is

-- a whole frame
pub rated_passed : (speed : ℕ) → 128 ≤ speed → speed ≤ 16383 → (sent : ℕ) (end : Option ℕ) (v : Slave) (m : Timing) → (at_arrival sent v).timing ≡ Some m
    → has_clock (at_arrival sent v).registers.kind ≡ true → (ds : List DatagramValue) → IsRateFrame speed ds → ticks_to_correction (slave_passed sent end v ds) ≡ Some (speed / 64)
unfolding slave_passed
rated_passed speed least most sent end v m is clock ds f =
    let a = at_arrival sent v in
    same_ports sent end (are_latching a ds) (slave_behind a ds) ∙ rated_behind speed least most a m is clock ds f
