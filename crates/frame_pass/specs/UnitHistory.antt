-- What a slave's SYNC unit went through since some instant: a call for each time to which the slave was advanced,
-- with the clock and the offset as they stood.
use Rattle.std.specs.Prelude.{◌≡◌, ℕ, ◌+◌, ◌&&◌, ◌||◌, nat_le, Bool, false, List, [], ◌∷◌, ◌++◌, Option, Some, None, IfSome, if◌then◌else◌}
use Rattle.std.specs.Option.{is_some}
use Rattle.ecat_frame.specs.FrameGrammar.{DatagramValue}
use Rattle.esc_regs.specs.RegisterFile.{Registers}
use Rattle.esc_regs.specs.RegisterWrite.{told}
use Rattle.osc_clock.specs.Ticks.{Oscillator}
use Rattle.sync_units.specs.Calls.{Call, AreInTurn, end_of, unit_after_calls, list_after_calls}
use Rattle.sync_units.specs.KeptEdges.{Kept}
use Rattle.sync_units.specs.SyncRule.{Armed}
use Rattle.frame_pass.specs.SlaveState.{Timing, Measuring, Slave, width, offset}
use Rattle.frame_pass.specs.DatagramTable.{writes}
use Rattle.frame_pass.specs.DatagramAtSlave.{doing, slave_after}
use Rattle.frame_pass.specs.FramePass.{comes_by, port_taken, slave_behind, are_latching, at_arrival}

-- what an advance to t is for the unit: nothing where the slave stands later
abbrev pub calls_until : ℕ → Measuring → List Call
calls_until t m =
    if nat_le m.timing.clock.instant t then record { clock = m.timing.clock; offset = offset m.registers; until = t } ∷ [] else []

abbrev pub calls_on : ℕ → Registers → Option Timing → List Call
calls_on t r None = []
calls_on t r (Some m) = calls_until t (record { registers = r; timing = m })

abbrev pub calls_to : ℕ → Slave → List Call
calls_to t s = calls_on t s.registers s.timing

-- what a port that latches is for it
abbrev pub calls_of_port : ℕ → Option ℕ → Option ℕ → Slave → List Call
calls_of_port sent end None s = []
calls_of_port sent end (Some at) s = if comes_by end at then calls_to (sent + at) s else []

unfoldable pub calls_of_ports : ℕ → Option ℕ → Slave → List Call
calls_of_ports sent end s =
    let s3 = port_taken sent end 0x090C s.visits.back3 s in
    let s1 = port_taken sent end 0x0904 s.visits.back1 s3 in
    calls_of_port sent end s.visits.back3 s ++ (calls_of_port sent end s.visits.back1 s3 ++ calls_of_port sent end s.visits.back2 s1)

-- what a frame is for it: the arrival, and the ports where the frame makes the slave latch
unfoldable pub calls_passed : ℕ → Option ℕ → Slave → List DatagramValue → List Call
calls_passed sent end s ds =
    calls_to (sent + s.visits.arrive) s
    ++ (if are_latching (at_arrival sent s) ds then calls_of_ports sent end (slave_behind (at_arrival sent s) ds) else [])

-- a datagram writes the activation, and so arms or disarms
unfoldable pub is_activating : Slave → DatagramValue → Bool
is_activating s d = writes (doing s d) && is_some (told s.registers.kind d.head.ado d.payload).activation

unfoldable pub are_activating : Slave → List DatagramValue → Bool
are_activating s [] = false
are_activating s (d ∷ ds) = is_activating s d || are_activating (slave_after s d) ds

-- The slave's unit and edges are what these calls leave of a unit and a list, from an instant on.
pub record IsRun (w : ℕ) (o : Oscillator) (start : ℕ) (unit : Option Armed) (edges : Kept) (calls : List Call)
    (m : Measuring) : Type 0 where
  pub width : width m.registers.kind ≡ w
  pub oscillator : m.timing.clock.osc ≡ o
  pub in_turn : AreInTurn o start calls
  pub end : end_of start calls ≡ m.timing.clock.instant
  pub unit_is : m.timing.unit ≡ unit_after_calls w calls unit
  pub edges_are : m.timing.edges ≡ list_after_calls w calls unit edges

abbrev pub HasRun : ℕ → Oscillator → ℕ → Option Armed → Kept → List Call → Slave → Type 0
HasRun w o start unit edges calls s =
    IfSome s.timing (λ m. IsRun w o start unit edges calls (record { registers = s.registers; timing = m }))
