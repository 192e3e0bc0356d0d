-- The registers of a slave, row by row. Addresses, bytes and names are those of the register description in
-- an ESC's data sheet; what a write does is this project's rule.
use Rattle.std.specs.Prelude.{ℕ, ◌+◌, ◌&&◌, ◌==◌, nat_lt, nat_le, Bool, true, false, if◌then◌else◌, List, [], ◌∷◌}
use Rattle.std.specs.List.{list_any}
use Rattle.esc_regs.specs.declared.clock_kind.ClockKind.{ClockKind}
use Rattle.esc_regs.specs.declared.clock_kind.ClockKind.TheVariants as kind
use Rattle.esc_regs.specs.declared.register.Place.{Place}
use Rattle.esc_regs.specs.declared.table.Writing.{Writing}
use Rattle.esc_regs.specs.declared.table.Writing.TheVariants.{Ignored, Stored, StoredInRange}

-- A register: its address, its bytes, its number at the start by the kind of the clock, and what a
-- write does.
pub record Register : Type 0 where
  pub addr : ℕ
  pub bytes : ℕ
  pub start : ClockKind → ℕ
  pub writes : Writing

-- one row of the table
abbrev pub row : ℕ → ℕ → (ClockKind → ℕ) → Writing → Register
row addr bytes start writes = record { addr = addr; bytes = bytes; start = start; writes = writes }

-- the same number for every kind
abbrev pub always : ℕ → ClockKind → ℕ
always n kind = n

-- bit 2: the slave has distributed clocks; bit 3: they have 64 bits
abbrev pub features : ClockKind → ℕ
features kind.None = 0x0000
features kind.C32 = 0x0004
features kind.C64 = 0x000C
features kind.R32 = 0x0004

-- Address, bytes, number at the start, what a write does, and the name. The DL status and the system
-- time are 0 until the slave sets them.
abbrev pub registers : List Register
registers =
    row 0x0000 1 (always 0x11) Ignored  -- Type
    ∷ row 0x0008 2 features Ignored  -- ESC Features supported
    ∷ row 0x0010 2 (always 0) Stored  -- Configured Station Address
    ∷ row 0x0110 2 (always 0) Ignored  -- ESC DL Status
    ∷ row 0x0900 4 (always 0) Ignored  -- Receive Time Port 0
    ∷ row 0x0904 4 (always 0) Ignored  -- Receive Time Port 1
    ∷ row 0x0908 4 (always 0) Ignored  -- Receive Time Port 2
    ∷ row 0x090C 4 (always 0) Ignored  -- Receive Time Port 3
    ∷ row 0x0910 8 (always 0) Ignored  -- System Time
    ∷ row 0x0918 8 (always 0) Ignored  -- Receive Time ECAT Processing Unit
    ∷ row 0x0920 8 (always 0) Stored  -- System Time Offset
    ∷ row 0x0928 4 (always 0) Stored  -- System Time Delay
    ∷ row 0x092C 4 (always 0) Ignored  -- System Time Difference
    ∷ row 0x0930 2 (always 0x1000) StoredInRange  -- Speed Counter Start
    ∷ row 0x0932 2 (always 0) Ignored  -- Speed Counter Diff
    ∷ row 0x0934 1 (always 4) Stored  -- System Time Difference Filter Depth
    ∷ row 0x0935 1 (always 12) Stored  -- Speed Counter Filter Depth
    ∷ row 0x0980 1 (always 0) Stored  -- Cyclic Unit Control
    ∷ row 0x0981 1 (always 0) Stored  -- Activation
    ∷ row 0x0990 8 (always 0) Stored  -- Start Time Cyclic Operation
    ∷ row 0x09A0 4 (always 0) Stored  -- SYNC0 Cycle Time
    ∷ row 0x09A4 4 (always 0) Stored  -- SYNC1 Cycle Time
    ∷ row 0x09AE 1 (always 0) Ignored  -- Latch0 Status
    ∷ row 0x09B0 8 (always 0) Ignored  -- Latch0 Time Positive Edge
    ∷ []

-- where a register stands
abbrev pub register_place : Register → Place
register_place r = record { addr = r.addr; bytes = r.bytes }

-- a register without its number at the start
abbrev pub row_of : Register → ℕ × ℕ × Writing
row_of r = (r.addr, r.bytes, r.writes)

-- whether a register of n bytes stands at the address
abbrev pub is_register : ℕ → ℕ → Bool
is_register addr n = list_any (λ r. (r.addr == addr) && (r.bytes == n)) registers

-- a clock of 64 bits
abbrev pub is_wide : ClockKind → Bool
is_wide kind.C64 = true
is_wide _ = false

-- the bytes that a register of n bytes has on such a slave: the lower half alone of one of 8 bytes,
-- unless its clock has 64 bits
abbrev pub held : ClockKind → ℕ → ℕ
held kind n = if is_wide kind then n else (if n == 8 then 4 else n)

-- whether the byte at a is one of the n from an address on
abbrev pub is_within : ℕ → ℕ → ℕ → Bool
is_within a addr n = nat_le addr a && nat_lt a (addr + n)

-- whether the byte at a belongs to a register on such a slave; all others read 0
unfoldable pub is_defined : ClockKind → ℕ → Bool
is_defined kind a = list_any (λ r. is_within a r.addr (held kind r.bytes)) registers
