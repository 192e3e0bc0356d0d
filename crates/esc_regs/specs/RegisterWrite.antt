-- A write as two functions: what it leaves in the registers, and what it tells.
use Rattle.std.specs.Prelude.{ℕ, Bool, false, if◌then◌else◌, List, length, map, None}
use Rattle.std.specs.List.{range_with_len}
use Rattle.std.specs.Option.{is_some}
use Rattle.esc_regs.specs.declared.answers.Access.TheVariants.{Done, Refused}
use Rattle.esc_regs.specs.declared.answers.Written.{Written}
use Rattle.esc_regs.specs.declared.clock_kind.ClockKind.{ClockKind}
use Rattle.esc_regs.specs.RegisterAccess.{is_refused, latches, received_by, rate_by, activation_by, byte_after}
use Rattle.esc_regs.specs.RegisterFile.{Registers}

-- the bytes after a write that is not refused, address by address
unfoldable pub stored_bytes : ClockKind → Bool → ℕ → List ℕ → List ℕ → List ℕ
stored_bytes kind in_range addr bytes before =
    map (byte_after kind in_range addr bytes before) (range_with_len 0 (length before))

-- the registers after a write of bytes from an address on: a refused one leaves them
abbrev pub written : Registers → ℕ → List ℕ → Registers
written r addr bytes =
    if is_refused r.kind addr (length bytes) then r
    else record r { bytes = stored_bytes r.kind (is_some (rate_by addr bytes)) addr bytes r.bytes }

-- what a refused write tells
abbrev pub refusal : Written
refusal = record { access = Refused; latched = false; received = None; rate = None; activation = None }

-- what a write tells a slave of this kind
abbrev pub told : ClockKind → ℕ → List ℕ → Written
told kind addr bytes =
    if is_refused kind addr (length bytes) then refusal
    else record {
      access = Done;
      latched = latches addr bytes;
      received = received_by addr bytes;
      rate = rate_by addr bytes;
      activation = activation_by addr bytes;
    }
