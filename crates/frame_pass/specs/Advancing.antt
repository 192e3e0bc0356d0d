-- A slave to which nothing happens but time: its edges are raised, its event is stamped, its clock counts.
use Rattle.std.specs.Prelude.{ℕ, nat_le, if◌then◌else◌, Option, Some, None}
use Rattle.local_clock.specs.Reading.{advanced}
use Rattle.sync_units.specs.Interval.{unit_at, edges_to}
use Rattle.sync_units.specs.KeptEdges.{put_all}
use Rattle.latch_unit.specs.Stamp.{stamp_by, expected_after}
use Rattle.esc_regs.specs.RegisterFile.{Registers}
use Rattle.frame_pass.specs.SlaveState.{Timing, Measuring, Slave, on_measuring, holding, width_of, offset}

-- a stamp stands in the registers of the latch input: bit 0 of its status is set, and its time
abbrev pub stamped : Option ℕ → Registers → Registers
stamped None r = r
stamped (Some stamp) r = holding 8 0x09B0 stamp (holding 1 0x09AE 1 r)

-- what the ticks up to t do, by the clock, the offset and the unit as they stand
abbrev pub timing_at : ℕ → ℕ → ℕ → Timing → Timing
timing_at w offset t m = record {
  clock = advanced w t m.clock;
  unit = unit_at w m.clock offset t m.unit;
  edges = put_all (edges_to w m.clock offset t m.unit) m.edges;
  event = expected_after m.clock t m.event;
}

unfoldable pub ticked_to : ℕ → Measuring → Measuring
ticked_to t m = record {
  registers = stamped (stamp_by (width_of m) m.timing.clock (offset m.registers) t m.timing.event) m.registers;
  timing = timing_at (width_of m) (offset m.registers) t m.timing;
}

-- a measuring slave at t; a t before its present time leaves it
unfoldable pub measuring_at : ℕ → Measuring → Measuring
measuring_at t m = if nat_le m.timing.clock.instant t then ticked_to t m else m

-- the slave at t
unfoldable pub advanced_to : ℕ → Slave → Slave
advanced_to t s = on_measuring (measuring_at t) s
