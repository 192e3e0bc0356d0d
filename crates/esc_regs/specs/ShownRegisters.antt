-- The registers as a read finds them at an instant.
use Rattle.std.specs.Prelude.{ℕ, List, Option, Some, None}
use Rattle.esc_regs.specs.declared.clock_kind.ClockKind.{ClockKind}
use Rattle.esc_regs.specs.declared.live.Live.{Live}
use Rattle.esc_regs.specs.RegisterBytes.{with_number}
use Rattle.esc_regs.specs.RegisterFile.{Registers}
use Rattle.esc_regs.specs.RegisterTable.{held}

-- the bytes with this number in a register of 8 bytes, as far as such a slave has it; None: as they are
abbrev pub showing : ClockKind → ℕ → Option ℕ → List ℕ → List ℕ
showing kind at None bytes = bytes
showing kind at (Some x) bytes = with_number (held kind 8) at x bytes

-- the registers with the live numbers in place of what is held of the system time and of the start time
abbrev pub shown : Live → Registers → Registers
shown live r =
    record r { bytes = showing r.kind 0x0990 live.next_due (showing r.kind 0x0910 live.system_time r.bytes) }
