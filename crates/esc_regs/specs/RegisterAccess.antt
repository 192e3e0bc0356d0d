-- What reads and writes of a slave's registers answer, change and tell, by this project's rule of register
-- access.
use Rattle.std.specs.Prelude.{◌≡◌, ℕ, ◌+◌, ◌-◌, ◌/◌, ◌&&◌, ◌||◌, ◌==◌, nat_lt, nat_le, if◌then◌else◌}
use Rattle.std.specs.Prelude.{Bool, true, false, List, length, slice_index, Option, Some, None}
use Rattle.std.specs.List.{list_any}
use Rattle.esc_regs.specs.declared.clock_kind.ClockKind.{ClockKind}
use Rattle.esc_regs.specs.declared.clock_kind.ClockKind.TheVariants as kind
use Rattle.esc_regs.specs.RegisterBytes.{number_at}
use Rattle.esc_regs.specs.declared.table.Writing.{Writing}
use Rattle.esc_regs.specs.declared.table.Writing.TheVariants.{Ignored, Stored, StoredInRange}
use Rattle.esc_regs.specs.RegisterTable.{registers, held, is_within}

-- whether the n bytes from an address on have one from low to high - 1
abbrev pub touches : ℕ → ℕ → ℕ → ℕ → Bool
touches low high addr n = nat_lt addr high && nat_lt low (addr + n)

-- whether they have all m bytes from a place on
abbrev pub covers : ℕ → ℕ → ℕ → ℕ → Bool
covers at m addr n = nat_le addr at && nat_le (at + m) (addr + n)

-- what a slave refuses of 0x0900 to 0x09FF, the registers of distributed clocks: a clockless one all,
-- and one that only takes receive times all but these
abbrev pub lacks : ClockKind → ℕ → ℕ → Bool
lacks kind.None addr n = touches 0x0900 0x0A00 addr n
lacks kind.R32 addr n = touches 0x0910 0x0918 addr n || touches 0x0920 0x0A00 addr n
lacks _ addr n = false

-- an access of n bytes is refused where it is empty, where it passes 0x1000, or where the slave lacks
-- a register that it touches
abbrev pub is_refused : ClockKind → ℕ → ℕ → Bool
is_refused kind addr n = n == 0 || nat_lt 0x1000 (addr + n) || lacks kind addr n

-- whether a write that is not refused latches the receive times
abbrev pub latches : ℕ → List ℕ → Bool
latches addr bytes = touches 0x0900 0x0904 addr (length bytes)

-- the system time that a write brings, to be compared: where it covers all four low bytes
abbrev pub received_by : ℕ → List ℕ → Option ℕ
received_by addr bytes =
    if covers 0x0910 4 addr (length bytes) then Some (number_at 4 (0x0910 - addr) bytes) else None

-- a speed that is stored: from 0x0080 to 0x3FFF
abbrev pub is_speed : ℕ → Bool
is_speed speed = nat_le 0x0080 speed && nat_le speed 0x3FFF

-- the rate of the speed that a write brings: where it covers both bytes and the speed is in its range
abbrev pub rate_by : ℕ → List ℕ → Option ℕ
rate_by addr bytes =
    if covers 0x0930 2 addr (length bytes) && is_speed (number_at 2 (0x0930 - addr) bytes)
    then Some (number_at 2 (0x0930 - addr) bytes / 64)
    else None

-- the activation byte that a write brings
abbrev pub activation_by : ℕ → List ℕ → Option ℕ
activation_by addr bytes =
    if covers 0x0981 1 addr (length bytes) then Some (slice_index bytes (0x0981 - addr)) else None

-- whether a write stores in such a register, where it brings a speed that is in its range or not
abbrev pub stores : Bool → Writing → Bool
stores in_range Ignored = false
stores in_range Stored = true
stores in_range StoredInRange = in_range

-- whether a write stores the byte at a: where a register that is stored has it
unfoldable pub is_writable : ClockKind → Bool → ℕ → Bool
is_writable kind in_range a =
    list_any (λ r. stores in_range r.writes && is_within a r.addr (held kind r.bytes)) registers

-- the byte at a after a write of bytes from an address on
abbrev pub byte_after : ClockKind → Bool → ℕ → List ℕ → List ℕ → ℕ → ℕ
byte_after kind in_range addr bytes before a =
    if is_within a addr (length bytes) && is_writable kind in_range a
    then slice_index bytes (a - addr)
    else slice_index before a

-- such a write stores each byte that is writable, and no other
pub record Stores (kind : ClockKind) (in_range : Bool) (addr : ℕ) (bytes before after : List ℕ) : Type 0 where
  pub size : length after ≡ length before
  pub each : (a : ℕ) → slice_index after a ≡ byte_after kind in_range addr bytes before a
