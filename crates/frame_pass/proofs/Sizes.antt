-- How many bytes registers have.
use Rattle.std.proofs.Common.{◌≡◌, ℕ, ◌+◌, ◌≤◌, List, length, Option, Some, None, Bool, true, false, refl, ◌∙◌, arith}
use Rattle.std.proofs.lemmas.List.FromFn.{length-map-range_with_len}
use Rattle.std.specs.Option.{is_some}
use Rattle.esc_regs.specs.RegisterAccess.{is_refused, rate_by, byte_after}
use Rattle.esc_regs.specs.RegisterFile.{Registers}
use Rattle.esc_regs.specs.RegisterWrite.{written, stored_bytes}
use Rattle.esc_regs.specs.ShownRegisters.{shown, showing}
use Rattle.esc_regs.specs.declared.live.Live.{Live}
use Rattle.esc_regs.proofs.Exported.{same_length, showing_length, held_few}
use Rattle.frame_pass.specs.SlaveState.{holding}
use Rattle.frame_pass.specs.Advancing.{stamped}

-- registers of a segment's slaves
abbrev pub HasSize : Registers → Type 0
HasSize r = length r.bytes ≡ 4096

size_stored : (r : Registers) (in_range : Bool) (addr : ℕ) (bytes : List ℕ) → length (stored_bytes r.kind in_range addr bytes r.bytes) ≡ length r.bytes
unfolding stored_bytes
size_stored r in_range addr bytes =
    length-map-range_with_len (byte_after r.kind in_range addr bytes r.bytes) 0 (length r.bytes)

pub size_written : (r : Registers) (addr : ℕ) (bytes : List ℕ) → HasSize r → HasSize (written r addr bytes)
size_written r addr bytes h = by (is_refused r.kind addr (length bytes)) refl
  where
    by : (b : Bool) → is_refused r.kind addr (length bytes) ≡ b → HasSize (written r addr bytes)
    by true e = rw e h
    by false e = rw e (size_stored r (is_some (rate_by addr bytes)) addr bytes ∙ h)

-- a register that is set leaves 4096 bytes
pub size_holding : (n addr x : ℕ) (r : Registers) → addr + n ≤ 4096 → HasSize r → HasSize (holding n addr x r)
size_holding n addr x r room h = same_length n addr x r.bytes (omega (arith, room, h)) ∙ h

pub size_stamped : (o : Option ℕ) (r : Registers) → HasSize r → HasSize (stamped o r)
size_stamped None r h = h
size_stamped (Some x) r h = size_holding 8 0x09B0 x (holding 1 0x09AE 1 r) (omega arith) (size_holding 1 0x09AE 1 r (omega arith) h)

pub size_shown : (live : Live) (r : Registers) → HasSize r → HasSize (shown live r)
size_shown live r h =
    let few = held_few r.kind in
    let time = showing_length r.kind 0x0910 live.system_time r.bytes (omega (arith, few, h)) in
    showing_length r.kind 0x0990 live.next_due (showing r.kind 0x0910 live.system_time r.bytes) (omega (arith, few, h, time)) ∙ time ∙ h
