-- The registers of a slave before its first frame.
use Rattle.std.specs.Prelude.{ℕ, List, [], ◌∷◌, replicate}
use Rattle.esc_regs.specs.declared.clock_kind.ClockKind.{ClockKind}
use Rattle.esc_regs.specs.RegisterBytes.{with_number}
use Rattle.esc_regs.specs.RegisterFile.{Registers}
use Rattle.esc_regs.specs.RegisterTable.{Register, registers}

-- the bytes with the number at the start of each of these registers
abbrev pub with_starts : ClockKind → List Register → List ℕ → List ℕ
with_starts kind [] bytes = bytes
with_starts kind (r ∷ rows) bytes = with_starts kind rows (with_number r.bytes r.addr (r.start kind) bytes)

-- 4096 bytes that are 0 but for the registers of the table
unfoldable pub bytes_at_start : ClockKind → List ℕ
bytes_at_start kind = with_starts kind registers (replicate 4096 0)

-- they stand so until the slave sets its DL status
abbrev pub registers_at_start : ClockKind → Registers
registers_at_start kind = record { kind = kind; bytes = bytes_at_start kind }
