-- What a write does to a slave, beside the bytes that it stores: this project's rule (docs/OWN.md).
use Rattle.std.specs.Prelude.{ℕ, ◌+◌, ◌-◌, ◌/◌, ◌%◌, ◌^◌, ◌&&◌, ◌==◌, min, nat_le, nat_lt, ℤ, pos, negsuc, Bool, true, false, List, Option, Some, None, if◌then◌else◌}
use Rattle.wrap_time.specs.WordDifference.{word_difference}
use Rattle.local_clock.specs.Reading.{corrected, reset_to}
use Rattle.sync_units.specs.SyncRule.{armed_by}
use Rattle.sync_units.specs.KeptEdges.{empty_list}
use Rattle.esc_regs.specs.declared.answers.Written.{Written}
use Rattle.esc_regs.specs.RegisterFile.{Registers}
use Rattle.esc_regs.specs.RegisterWrite.{written, told}
use Rattle.frame_pass.specs.SlaveState.{Measuring, Slave, on_measuring, holding, width_of, start_time, cycle_time, sync1_time}
use Rattle.frame_pass.specs.LiveRegisters.{system_time}

-- Latch: the receive times at port 0 and at the processing unit take the local time.
unfoldable pub latched : Bool → Measuring → Measuring
latched false m = m
latched true m = record m {
  registers = holding 8 0x0918 m.timing.clock.reading (holding 4 0x0900 (m.timing.clock.reading % 2 ^ 32) m.registers);
}

-- how far the low half of the system time is ahead of a received one
abbrev pub difference : Measuring → ℕ → ℤ
difference m received = word_difference 32 (system_time m % 2 ^ 32) received

-- a difference as 0x092C shows it: its sign in bit 31, and in the others its size, at most 2^31 - 1
unfoldable pub difference_shown : ℤ → ℕ
difference_shown (pos n) = min n (2 ^ 31 - 1)
difference_shown (negsuc n) = 2 ^ 31 + min (n + 1) (2 ^ 31 - 1)

-- Comparison: the clock receives the difference, and 0x092C shows it.
unfoldable pub compared : Option ℕ → Measuring → Measuring
compared None m = m
compared (Some received) m = record {
  registers = holding 4 0x092C (difference_shown (difference m received)) m.registers;
  timing = record m.timing { clock = corrected (difference m received) m.timing.clock };
}

-- Reset: there is no difference left, and the clock corrects by another rate.
unfoldable pub reset_by : Option ℕ → Measuring → Measuring
reset_by None m = m
reset_by (Some rate) m = record {
  registers = holding 4 0x092C 0 m.registers;
  timing = record m.timing { clock = reset_to rate m.timing.clock };
}

abbrev pub has_bit : ℕ → ℕ → Bool
has_bit k byte = byte / 2 ^ k % 2 == 1

-- an activation byte that arms: the cyclic unit and SYNC0, with a cycle of 1000 ns or more
unfoldable pub arms : ℕ → Registers → Bool
arms byte r = has_bit 0 byte && has_bit 1 byte && nat_le 1000 (cycle_time r)

-- the time of SYNC1, where it is armed with SYNC0: from 1 to the cycle less 1
unfoldable pub sync1_by : ℕ → Registers → Option ℕ
sync1_by byte r =
    if has_bit 2 byte && nat_lt 0 (sync1_time r) && nat_lt (sync1_time r) (cycle_time r) then Some (sync1_time r) else None

-- Activation: the unit is armed by the registers as they stand, without the edges of an earlier arming, or it
-- is disarmed.
unfoldable pub activated : Option ℕ → Measuring → Measuring
activated None m = m
activated (Some byte) m =
    if arms byte m.registers
    then record m {
      timing = record m.timing {
        unit = Some (armed_by (width_of m) (start_time m.registers) (cycle_time m.registers) (sync1_by byte m.registers));
        edges = empty_list m.timing.edges.keep;
      };
    }
    else record m { timing = record m.timing { unit = None } }

-- the effects of a write in their order
abbrev pub affected : Written → Measuring → Measuring
affected w m = activated w.activation (reset_by w.rate (compared w.received (latched w.latched m)))

-- the slave behind a write: its bytes are stored first, and then come the effects; a refused write has none
unfoldable pub wrote : ℕ → List ℕ → Slave → Slave
wrote addr bytes s =
    on_measuring (affected (told s.registers.kind addr bytes)) (record s { registers = written s.registers addr bytes })
