-- What a wire keeps, as it is told.
use Rattle.std.specs.Prelude.{◌≡◌, ℕ, ⊤, Bool, if◌then◌else◌, List, [], Option, Some, None}
use Rattle.std.specs.Option.{option_map_or}
use Rattle.cable_tree.specs.declared.port.Port.{Port}
use Rattle.cable_tree.specs.declared.port.Port.TheVariants.{P1, P2, P3}
use Rattle.esc_regs.specs.declared.clock_kind.ClockKind.{ClockKind}
use Rattle.frame_pass.specs.SlaveState.{Visits, Timing, Measuring, Slave, width}
use Rattle.sync_units.specs.declared.edge.Edge.{Edge}
use Rattle.esc_regs.specs.RegisterFile.{Registers}
use Rattle.ecat_frame.specs.FrameGrammar.{DatagramValue}
use Rattle.ecat_frame.specs.Changed.{answered}
use Rattle.frame_pass.specs.DatagramTable as table
use Rattle.wire_sim.specs.declared.doing.Doing.{Doing}
use Rattle.wire_sim.specs.declared.doing.Doing.TheVariants as doing
use Rattle.wire_sim.specs.declared.dc_unit.AnyUnit.{AnyUnit}
use Rattle.wire_sim.specs.declared.dc_unit.AnyUnit.TheVariants.{Clockless, Narrow, Wide}

-- a measuring slave by its registers and its unit
abbrev pub measuring : Registers → Timing → Measuring
measuring r t = record { registers = r; timing = t }

-- the timing of a slave, None where it is clockless
abbrev pub unit_told : AnyUnit → Option Timing
unit_told Clockless = None
unit_told (Narrow t) = Some t
unit_told (Wide t) = Some t

-- the clock has the bits that the kind tells
abbrev pub HasWidth : AnyUnit → ClockKind → Type 0
HasWidth Clockless kind = ⊤
HasWidth (Narrow t) kind = 32 ≡ width kind
HasWidth (Wide t) kind = 64 ≡ width kind

-- where the receive time of a port stands
abbrev pub address_of : Port → ℕ
address_of P1 = 0x0904
address_of P2 = 0x0908
address_of P3 = 0x090C

-- what a slave does, by the table of the commands
abbrev pub doing_seen : Doing → table.Doing
doing_seen doing.Passes = table.Passes
doing_seen doing.Reads = table.Reads
doing_seen doing.Writes = table.Writes
doing_seen doing.ReadsWrites = table.ReadsWrites

-- when a frame comes back into a port
abbrev pub back : Port → Visits → Option ℕ
back P1 v = v.back1
back P2 v = v.back2
back P3 v = v.back3

-- the edges that a slave keeps; a clockless one has none
abbrev pub edges_kept : Slave → List Edge
edges_kept s = option_map_or (λ t. t.edges.edges) s.timing []

-- a datagram that leaves a slave with this ADP and counter, and with these data where it was read
abbrev pub replied : Bool → ℕ → List ℕ → ℕ → DatagramValue → DatagramValue
replied read adp payload wkc d = if read then answered adp payload wkc d else record d { head = record d.head { adp = adp }; wkc = wkc }
