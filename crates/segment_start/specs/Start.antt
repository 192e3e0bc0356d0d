-- A segment before its first frame: the slaves of a file in frame order, at true time 0.
use Rattle.std.specs.Prelude.{ℕ, ◌/◌, List, map, Option, Some, None}
use Rattle.esc_regs.specs.declared.clock_kind.ClockKind.{ClockKind}
use Rattle.esc_regs.specs.declared.clock_kind.ClockKind.TheVariants as kind
use Rattle.esc_regs.specs.RegisterFile.{Registers}
use Rattle.esc_regs.specs.StartOfRegisters.{registers_at_start}
use Rattle.local_clock.specs.Reading.{started}
use Rattle.sync_units.specs.KeptEdges.{empty_list}
use Rattle.cable_tree.specs.Row.{Row}
use Rattle.cable_tree.specs.declared.port.Port.TheVariants.{P1, P2, P3}
use Rattle.cable_tree.specs.FrameOrder.{order}
use Rattle.cable_tree.specs.PathSums.{arrive, port_time, round_trip}
use Rattle.dc_topology.specs.Status.{status_of}
use Rattle.segment_file.specs.Segment.{RowValue, SegmentValue, oscillator, row_of, tree_rows}
use Rattle.frame_pass.specs.SlaveState.{Visits, Timing, Slave, holding}
use Rattle.frame_pass.specs.SegmentState.{SegmentState}

-- the registers of a slave of this kind, which shows its status in the tree
unfoldable pub registers_of : ClockKind → ℕ → Registers
registers_of kind status = holding 2 0x0110 status (registers_at_start kind)

-- when a frame visits the slave of a row
abbrev pub visits_of : List Row → ℕ → Visits
visits_of rows r = record {
  arrive = arrive rows r;
  back3 = port_time rows r P3;
  back1 = port_time rows r P1;
  back2 = port_time rows r P2;
}

-- the ticks to a correction: a 64th of the speed counter's start, 0x1000
abbrev pub first_rate : ℕ
first_rate = 0x1000 / 64

-- a clock that begins, and a unit that is not armed and will keep so many edges of each signal
abbrev pub timing_of : ℕ → RowValue → Timing
timing_of keep row = record { clock = started (oscillator row) row.start first_rate; unit = None; edges = empty_list keep; event = None }

-- a clock keeps as many edges as there are cycles, and a slave that only measures none
abbrev pub timing_by : ClockKind → ℕ → RowValue → Option Timing
timing_by kind.None cycles row = None
timing_by kind.R32 cycles row = Some (timing_of 0 row)
timing_by kind.C32 cycles row = Some (timing_of cycles row)
timing_by kind.C64 cycles row = Some (timing_of cycles row)

-- the slave of row r
abbrev pub slave_by : List Row → ℕ → ℕ → RowValue → Slave
slave_by rows cycles r row = record {
  visits = visits_of rows r;
  registers = registers_of row.kind (status_of rows r);
  timing = timing_by row.kind cycles row;
}

unfoldable pub slave_of : SegmentValue → ℕ → Slave
slave_of s r = slave_by (tree_rows s.rows) s.head.cycles r (row_of s r)

-- no frame was sent or lost yet
unfoldable pub started_segment : SegmentValue → SegmentState
started_segment s = record {
  slaves = map (slave_of s) (order (tree_rows s.rows));
  round_trip = round_trip (tree_rows s.rows);
  losses = s.losses;
  commission = 0;
  drift = 0;
  sent = 0;
  lost = 0;
  last = 0;
  free = 0;
}
