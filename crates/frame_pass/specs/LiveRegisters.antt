-- What a slave shows in its registers at its present time.
use Rattle.std.specs.Prelude.{ℕ, ◌+◌, ◌-◌, ◌%◌, ◌^◌, List, slice_range, if◌then◌else◌, Option, Some, None, option_map}
use Rattle.sync_units.specs.ClockCopy.{copy_of}
use Rattle.esc_regs.specs.declared.live.Live.{Live}
use Rattle.esc_regs.specs.RegisterAccess.{is_refused}
use Rattle.esc_regs.specs.RegisterFile.{Registers}
use Rattle.esc_regs.specs.ShownRegisters.{shown}
use Rattle.frame_pass.specs.SlaveState.{Timing, Measuring, Slave, width_of, offset, delay}

-- the local time plus the offset
abbrev pub local_copy : Measuring → ℕ
local_copy m = copy_of (width_of m) m.timing.clock (offset m.registers)

-- the local copy less the delay
unfoldable pub system_time : Measuring → ℕ
system_time m = (local_copy m + (2 ^ width_of m - delay m.registers)) % 2 ^ width_of m

-- the system time, and while the unit is armed the time of the next SYNC0 signal in place of the start time;
-- a clockless slave shows what it holds
abbrev pub live : Registers → Option Timing → Live
live r None = record { system_time = None; next_due = None }
live r (Some t) = record {
  system_time = Some (system_time (record { registers = r; timing = t }));
  next_due = option_map (λ armed. armed.sync0.value) t.unit;
}

-- the n bytes that a read from an address on gives, None where it is refused
unfoldable pub read_of : Slave → ℕ → ℕ → Option (List ℕ)
read_of s addr n =
    if is_refused s.registers.kind addr n then None
    else Some (slice_range (shown (live s.registers s.timing) s.registers).bytes addr (addr + n))
