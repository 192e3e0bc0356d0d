-- The receive times in the registers of a slave (ESC data sheet, 0x0900 to 0x090F and 0x0918).
use Rattle.std.specs.Prelude.{◌≡◌, ℕ, ◌+◌, ◌*◌, ◌%◌, ◌^◌, List, Option, Some, IfSome, slice_get}
use Rattle.cable_tree.specs.declared.port.Port.{Port}
use Rattle.cable_tree.specs.declared.port.Port.TheVariants.{P1, P2, P3}
use Rattle.dc_topology.specs.Listed.{port_number}
use Rattle.frame_pass.specs.SlaveState.{Slave, Visits, holds}
use Rattle.segment_file.specs.Segment.{RowValue, SegmentValue}
use Rattle.delay_law.specs.Resting.{row_there, shown_at}

-- when a frame comes back into a port, in fs from its sending on
abbrev pub back_into : Visits → Port → Option ℕ
back_into v P1 = v.back1
back_into v P2 = v.back2
back_into v P3 = v.back3

-- the register of a port's receive time
abbrev pub port_register : Port → ℕ
port_register p = 0x0900 + 4 * port_number p

-- they are what the clock of the row, correcting nothing, showed at the visits of a frame that was sent then
pub record HoldsTimes (row : RowValue) (sent : ℕ) (v : Slave) : Type 0 where
  pub port0 : holds 4 0x0900 v.registers ≡ shown_at row (sent + v.visits.arrive) % 2 ^ 32
  pub ports : (p : Port) (at : ℕ) → back_into v.visits p ≡ Some at
      → holds 4 (port_register p) v.registers ≡ shown_at row (sent + at) % 2 ^ 32
  pub unit : holds 8 0x0918 v.registers ≡ shown_at row (sent + v.visits.arrive)

-- at each measuring slave
abbrev pub AllHold : SegmentValue → ℕ → List Slave → Type 0
AllHold s sent ss = (p : ℕ) (v : Slave) → slice_get ss p ≡ Some v → IfSome v.timing (λ m. HoldsTimes (row_there s p) sent v)
